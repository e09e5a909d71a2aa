use Rattle.algebra_tests.proofs.lists.listed_by_koetter.Given as goal

-- the steps are counted in the blanks' own ledgers
abbrev pub ghosts-listed_in_steps-C-Ledger : goal.ghosts-listed_in_steps-C-Ledger
ghosts-listed_in_steps-C-Ledger a = record { name = a.cols.name; parts = a.cols.parts }

abbrev pub ghosts-listed_in_steps-N-Ledger : goal.ghosts-listed_in_steps-N-Ledger
ghosts-listed_in_steps-N-Ledger a = record { name = a.nodes.name; parts = a.nodes.parts }
