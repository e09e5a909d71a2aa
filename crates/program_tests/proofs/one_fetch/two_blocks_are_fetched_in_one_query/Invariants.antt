use Rattle.program_tests.proofs.one_fetch.two_blocks_are_fetched_in_one_query.Given as goal

-- the columns are counted in the first blank's own ledger
abbrev pub ghosts-fetched-C-Ledger : goal.ghosts-fetched-C-Ledger
ghosts-fetched-C-Ledger g a = record { name = a.cols.name; parts = a.cols.parts }

-- and the nodes in the second's
abbrev pub ghosts-fetched-N-Ledger : goal.ghosts-fetched-N-Ledger
ghosts-fetched-N-Ledger g a = record { name = a.nodes.name; parts = a.nodes.parts }
