-- The rows of a table, one after the other, and how far they were written.
use Rattle.std.specs.Prelude.{◌≡◌, ℕ, ◌<◌, ◌≤◌, List, length, slice_get, Some}
use Rattle.quantity_limits.specs.declared.TheConstants.{MOST_WIDTH}
use Rattle.key_table.specs.Counting.{row_at}
use Rattle.key_table.specs.Entry.{Pair}
use Rattle.key_table.specs.KeyList.{AreSorted, tag_of}
use Rattle.key_table.specs.Sorting.{Sorted}
use Rattle.key_table.specs.Table.{IsTable, Making, pairs_in, table_row}
use Rattle.key_table.specs.Width.{width_of}

-- the rows of the table of sorted entries, with a tag, so many rows of so many bytes, and which of them comes next
pub record Rows : Type 0 where
  pub sorted : Sorted
  pub tag : List ℕ
  pub rows : ℕ
  pub width : ℕ
  pub next : ℕ

-- these rows
abbrev pub rows_at : Sorted → List ℕ → ℕ → ℕ → ℕ → Rows
rows_at sorted tag rows width next = record { sorted = sorted; tag = tag; rows = rows; width = width; next = next }

-- the pairs before a place have the rows before j, and the others rows from j on
pub record StartsAt (rows j : ℕ) (pairs : List Pair) (place : ℕ) : Type 0 where
  pub within : place ≤ length pairs
  pub before : (k : ℕ) → k < place → row_at rows pairs k < j
  pub behind : (k : ℕ) → place ≤ k → k < length pairs → j ≤ row_at rows pairs k

-- the next row begins at that entry, and each row has room for its entries
pub record AreAt (table : Rows) (place : ℕ) : Type 0 where
  pub starts : StartsAt table.rows table.next table.sorted.pairs place
  pub room : width_of table.sorted.size table.sorted.most table.rows table.sorted.pairs ≤ table.width
  pub few : table.width ≤ MOST_WIDTH

-- row j of a table
abbrev pub row_bytes : Rows → ℕ → List ℕ
row_bytes table j = table_row table.width table.tag table.sorted.most (pairs_in table.rows j table.sorted.pairs)

-- these rows, as wide as the list needs or wider, with the list's own tag, are its table
abbrev pub RowsAreTable : Type 0
RowsAreTable = (m : Making) (salt : List ℕ) (width : ℕ) (list sorted : List Pair) (table : List (List ℕ))
    → AreSorted m.most list sorted → m.tag ≡ tag_of salt m.most sorted → width_of m.size m.most m.rows sorted ≤ width → length table ≡ m.rows
    → ((j : ℕ) → j < m.rows → slice_get table j ≡ Some (table_row width m.tag m.most (pairs_in m.rows j sorted)))
    → IsTable m salt width list table
