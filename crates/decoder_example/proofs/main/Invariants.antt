use Rattle.decoder_example.proofs.main.Given as goal

-- the steps are counted in the blanks' own ledgers
abbrev pub ghosts-judge-C-Ledger : goal.ghosts-judge-C-Ledger
ghosts-judge-C-Ledger a = record { name = a.columns.name; parts = a.columns.parts }

abbrev pub ghosts-judge-N-Ledger : goal.ghosts-judge-N-Ledger
ghosts-judge-N-Ledger a = record { name = a.nodes.name; parts = a.nodes.parts }
