use Rattle.program_tests.proofs.agreed_blocks.a_session_is_judged_and_written.Given as goal

-- the steps are counted in the blanks' own ledgers
abbrev pub ghosts-judged-C-Ledger : goal.ghosts-judged-C-Ledger
ghosts-judged-C-Ledger g a = record { name = a.cols.name; parts = a.cols.parts }

abbrev pub ghosts-judged-N-Ledger : goal.ghosts-judged-N-Ledger
ghosts-judged-N-Ledger g a = record { name = a.nodes.name; parts = a.nodes.parts }
