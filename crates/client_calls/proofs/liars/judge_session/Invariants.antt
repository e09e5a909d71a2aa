use Rattle.client_calls.proofs.liars.judge_session.Given as goal

-- a caller that counts nothing picks both ledgers
abbrev pub ghosts-report_uncounted-C-Ledger : goal.ghosts-report_uncounted-C-Ledger
ghosts-report_uncounted-C-Ledger a = record { name = a.cols.name; parts = a.cols.parts }

abbrev pub ghosts-report_uncounted-N-Ledger : goal.ghosts-report_uncounted-N-Ledger
ghosts-report_uncounted-N-Ledger a = record { name = a.nodes.name; parts = a.nodes.parts }
