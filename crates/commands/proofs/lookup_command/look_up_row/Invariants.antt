use Rattle.commands.proofs.lookup_command.look_up_row.Given as goal

abbrev pub ghosts-look_up_uncounted-C-Ledger : goal.ghosts-look_up_uncounted-C-Ledger
ghosts-look_up_uncounted-C-Ledger g a = record { name = a.cols.name; parts = a.cols.parts }

abbrev pub ghosts-look_up_uncounted-N-Ledger : goal.ghosts-look_up_uncounted-N-Ledger
ghosts-look_up_uncounted-N-Ledger g a = record { name = a.nodes.name; parts = a.nodes.parts }
