use Rattle.algebra_tests.proofs.roots.is_found_in_four.Given as goal

-- the nodes are counted in the blank's own ledger
abbrev pub ghosts-lines_in_steps : goal.ghosts-lines_in_steps
ghosts-lines_in_steps a = record { name = a.nodes.name; parts = a.nodes.parts }
