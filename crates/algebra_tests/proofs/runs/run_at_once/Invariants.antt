use Rattle.algebra_tests.proofs.runs.run_at_once.Given as goal

-- the steps are counted in the blank's own ledger
abbrev pub ghosts-run_in_steps : goal.ghosts-run_in_steps
ghosts-run_in_steps a = record { name = a.cols.name; parts = a.cols.parts }
