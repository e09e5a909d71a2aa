use Rattle.program_tests.proofs.one_replay.a_session_is_judged.Given as goal

-- the columns are counted in the first blank's own ledger
abbrev pub ghosts-replayed-C-Ledger : goal.ghosts-replayed-C-Ledger
ghosts-replayed-C-Ledger g a = record { name = a.cols.name; parts = a.cols.parts }

-- and the nodes in the second's
abbrev pub ghosts-replayed-N-Ledger : goal.ghosts-replayed-N-Ledger
ghosts-replayed-N-Ledger g a = record { name = a.nodes.name; parts = a.nodes.parts }
