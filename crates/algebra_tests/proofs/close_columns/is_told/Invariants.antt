use Rattle.algebra_tests.proofs.close_columns.is_told.Given as goal

-- the steps are counted in the blank's own ledger
abbrev pub ghosts-is_told_in_steps : goal.ghosts-is_told_in_steps
ghosts-is_told_in_steps a = record { name = a.cols.name; parts = a.cols.parts }
