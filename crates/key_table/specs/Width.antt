-- How wide a table is, and which number of rows is best.
use Rattle.std.specs.Prelude.{◌≡◌, ℕ, ◌+◌, ◌*◌, ◌^◌, ◌≤◌, List, length, map, max, fold}
use Rattle.std.specs.List.{range_with_len}
use Rattle.quantity_limits.specs.Shape.{IsShape}
use Rattle.key_table.specs.Entry.{Pair, entry_size}
use Rattle.key_table.specs.Table.{head_size, pairs_in}

-- the greatest number of entries that a row has, at least 1
abbrev pub fullest : ℕ → List Pair → ℕ
fullest rows pairs = fold max 1 (map (λ j. length (pairs_in rows j pairs)) (range_with_len 0 rows))

-- the bytes that each row has: its head, and room for as many entries as the fullest has
unfoldable pub width_of : ℕ → ℕ → ℕ → List Pair → ℕ
width_of size most rows pairs = head_size + entry_size size most * fullest rows pairs

-- so many rows make a table that is a database: a power of two, with rows and widths that a database may have
pub record MakesTable (size most : ℕ) (pairs : List Pair) (rows : ℕ) : Type 0 where
  pub power : ℕ
  pub is_power : rows ≡ 2 ^ power
  pub shape : IsShape rows (width_of size most rows pairs)

-- the best number of rows: those for which rows and width together are least, and of equal ones the fewest
pub record IsBest (size most : ℕ) (pairs : List Pair) (rows : ℕ) : Type 0 where
  pub makes : MakesTable size most pairs rows
  pub least : (other : ℕ) → MakesTable size most pairs other
      → rows + width_of size most rows pairs ≤ other + width_of size most other pairs
  pub fewest : (other : ℕ) → MakesTable size most pairs other
      → rows + width_of size most rows pairs ≡ other + width_of size most other pairs → rows ≤ other
