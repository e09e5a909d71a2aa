use Rattle.program_tests.proofs.asked_way.the_way_that_is_handed_on_is_asked_once.Given as goal

-- the steps are counted in the blanks' own ledgers
abbrev pub ghosts-decided_with-C-Ledger : goal.ghosts-decided_with-C-Ledger
ghosts-decided_with-C-Ledger g a = record { name = a.cols.name; parts = a.cols.parts }

abbrev pub ghosts-decided_with-N-Ledger : goal.ghosts-decided_with-N-Ledger
ghosts-decided_with-N-Ledger g a = record { name = a.nodes.name; parts = a.nodes.parts }
