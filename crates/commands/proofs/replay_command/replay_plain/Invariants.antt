use Rattle.commands.proofs.replay_command.replay_plain.Given as goal

abbrev pub ghosts-replay_uncounted-C-Ledger : goal.ghosts-replay_uncounted-C-Ledger
ghosts-replay_uncounted-C-Ledger g a = record { name = a.cols.name; parts = a.cols.parts }

abbrev pub ghosts-replay_uncounted-N-Ledger : goal.ghosts-replay_uncounted-N-Ledger
ghosts-replay_uncounted-N-Ledger g a = record { name = a.nodes.name; parts = a.nodes.parts }
