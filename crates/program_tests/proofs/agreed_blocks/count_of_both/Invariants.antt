use Rattle.program_tests.proofs.agreed_blocks.count_of_both.Given as goal

-- the steps are counted in the blanks' own ledgers
abbrev pub ghosts-decided-C-Ledger : goal.ghosts-decided-C-Ledger
ghosts-decided-C-Ledger a = record { name = a.cols.name; parts = a.cols.parts }

abbrev pub ghosts-decided-N-Ledger : goal.ghosts-decided-N-Ledger
ghosts-decided-N-Ledger a = record { name = a.nodes.name; parts = a.nodes.parts }
