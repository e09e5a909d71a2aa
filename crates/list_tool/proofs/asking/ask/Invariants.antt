use Rattle.list_tool.proofs.asking.ask.Given as goal

abbrev pub ghosts-find_uncounted-C-Ledger : goal.ghosts-find_uncounted-C-Ledger
ghosts-find_uncounted-C-Ledger g a = record { name = a.cols.name; parts = a.cols.parts }

abbrev pub ghosts-find_uncounted-N-Ledger : goal.ghosts-find_uncounted-N-Ledger
ghosts-find_uncounted-N-Ledger g a = record { name = a.nodes.name; parts = a.nodes.parts }
