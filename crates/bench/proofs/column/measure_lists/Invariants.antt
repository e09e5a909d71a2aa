use Rattle.bench.proofs.column.measure_lists.Given as goal

-- the steps are counted in the blanks' own ledgers
abbrev pub ghosts-measure-C-Ledger : goal.ghosts-measure-C-Ledger
ghosts-measure-C-Ledger g a = record { name = a.cols.name; parts = a.cols.parts }

abbrev pub ghosts-measure-N-Ledger : goal.ghosts-measure-N-Ledger
ghosts-measure-N-Ledger g a = record { name = a.nodes.name; parts = a.nodes.parts }
