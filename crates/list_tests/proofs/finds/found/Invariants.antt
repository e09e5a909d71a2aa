use Rattle.list_tests.proofs.finds.found.Given as goal

-- the columns are counted in the ledger of the first blank
abbrev pub ghosts-search-C-Ledger : goal.ghosts-search-C-Ledger
ghosts-search-C-Ledger a = record { name = a.cols.name; parts = a.cols.parts }

-- and the nodes in that of the second
abbrev pub ghosts-search-N-Ledger : goal.ghosts-search-N-Ledger
ghosts-search-N-Ledger a = record { name = a.nodes.name; parts = a.nodes.parts }
