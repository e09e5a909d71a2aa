use Rattle.client_calls.proofs.judging.verdict_on.Given as goal

-- a caller that counts nothing picks both ledgers
abbrev pub ghosts-judge_uncounted-C-Ledger : goal.ghosts-judge_uncounted-C-Ledger
ghosts-judge_uncounted-C-Ledger a = record { name = a.cols.name; parts = a.cols.parts }

abbrev pub ghosts-judge_uncounted-N-Ledger : goal.ghosts-judge_uncounted-N-Ledger
ghosts-judge_uncounted-N-Ledger a = record { name = a.nodes.name; parts = a.nodes.parts }
