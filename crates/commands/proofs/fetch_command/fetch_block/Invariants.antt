use Rattle.commands.proofs.fetch_command.fetch_block.Given as goal

abbrev pub ghosts-fetch_uncounted-C-Ledger : goal.ghosts-fetch_uncounted-C-Ledger
ghosts-fetch_uncounted-C-Ledger g a = record { name = a.cols.name; parts = a.cols.parts }

abbrev pub ghosts-fetch_uncounted-N-Ledger : goal.ghosts-fetch_uncounted-N-Ledger
ghosts-fetch_uncounted-N-Ledger g a = record { name = a.nodes.name; parts = a.nodes.parts }
