use Rattle.drawn_workload.proofs.judging.judge_answers.Given as goal

abbrev pub ghosts-judge_uncounted-C-Ledger : goal.ghosts-judge_uncounted-C-Ledger
ghosts-judge_uncounted-C-Ledger g a = record { name = a.cols.name; parts = a.cols.parts }

abbrev pub ghosts-judge_uncounted-N-Ledger : goal.ghosts-judge_uncounted-N-Ledger
ghosts-judge_uncounted-N-Ledger g a = record { name = a.nodes.name; parts = a.nodes.parts }

abbrev pub ghosts-judge_uncounted-2-C-Ledger : goal.ghosts-judge_uncounted-2-C-Ledger
ghosts-judge_uncounted-2-C-Ledger g a = record { name = a.cols.name; parts = a.cols.parts }

abbrev pub ghosts-judge_uncounted-2-N-Ledger : goal.ghosts-judge_uncounted-2-N-Ledger
ghosts-judge_uncounted-2-N-Ledger g a = record { name = a.nodes.name; parts = a.nodes.parts }
