use Rattle.program_tests.proofs.agreed_blocks.eight_equal_answers.Given as goal

-- the steps are counted in the blanks' own ledgers
abbrev pub ghosts-counted_among_eight-C-Ledger : goal.ghosts-counted_among_eight-C-Ledger
ghosts-counted_among_eight-C-Ledger g a = record { name = a.cols.name; parts = a.cols.parts }

abbrev pub ghosts-counted_among_eight-N-Ledger : goal.ghosts-counted_among_eight-N-Ledger
ghosts-counted_among_eight-N-Ledger g a = record { name = a.nodes.name; parts = a.nodes.parts }
