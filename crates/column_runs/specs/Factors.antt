-- The factors by which values at some places give those at the others.
use Rattle.std.specs.Prelude.{◌≡◌, ℕ, ◌+◌, List, length, All}
use Rattle.column_runs.specs.Rows.{lists_of}
use Rattle.column_runs.specs.Tile.{IsTile}
use Rattle.column_runs.specs.declared.lagrange.Factors.{Factors}

-- how many places they are for: those that they go by, and the others
abbrev pub place_count : Factors → ℕ
place_count factors = length factors.zero.items + 1 + length factors.others.items

-- each of the others has as many as 0 has
abbrev pub AreOfOneSize : Factors → Type 0
AreOfOneSize factors = All (λ f. length f.items ≡ length factors.zero.items) factors.others.items

-- what is said of a tile of columns, by these factors
abbrev pub IsTileBy : List (List ℕ) → ℕ → Factors → List ℕ → ℕ → Type 0
IsTileBy rows from factors bytes n = IsTile rows from (lists_of factors.others.items) factors.zero.items bytes n
