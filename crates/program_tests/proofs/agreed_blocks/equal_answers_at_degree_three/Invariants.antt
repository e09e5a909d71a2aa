use Rattle.program_tests.proofs.agreed_blocks.equal_answers_at_degree_three.Given as goal

-- the steps are counted in the blanks' own ledgers
abbrev pub ghosts-counted_at_degree_three-C-Ledger : goal.ghosts-counted_at_degree_three-C-Ledger
ghosts-counted_at_degree_three-C-Ledger g a = record { name = a.cols.name; parts = a.cols.parts }

abbrev pub ghosts-counted_at_degree_three-N-Ledger : goal.ghosts-counted_at_degree_three-N-Ledger
ghosts-counted_at_degree_three-N-Ledger g a = record { name = a.nodes.name; parts = a.nodes.parts }
