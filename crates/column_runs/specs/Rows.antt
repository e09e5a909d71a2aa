-- Rows of bytes, as they lie in memory.
use Rattle.std.specs.Prelude.{ℕ, List, map, Vec}
use Rattle.std.specs.Borrow.{Bor}
use Rattle.std.specs.Global.{Global}

-- the bytes of rows that lie in different places
abbrev pub rows_of : List (Bor (List ℕ)) → List (List ℕ)
rows_of rows = map (λ (row : Bor (List ℕ)). row.now) rows

-- the items of lists of bytes
abbrev pub lists_of : List (Vec ℕ Global) → List (List ℕ)
lists_of lists = map (λ (list : Vec ℕ Global). list.items) lists
