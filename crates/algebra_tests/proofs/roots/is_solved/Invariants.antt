use Rattle.algebra_tests.proofs.roots.is_solved.Given as goal

-- the nodes are counted in the blank's own ledger
abbrev pub ghosts-roots_in_steps : goal.ghosts-roots_in_steps
ghosts-roots_in_steps a = record { name = a.nodes.name; parts = a.nodes.parts }
