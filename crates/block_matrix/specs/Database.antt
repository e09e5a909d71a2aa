-- A database as a file: raw bytes with no header, row after row. The last row is filled up with zeros.
use Rattle.std.specs.Prelude.{ℕ, ◌+◌, ◌-◌, ◌*◌, ◌/◌, min, List, ◌++◌, length, map, replicate, slice_range}
use Rattle.std.specs.List.{range_with_len}
use Rattle.std.specs.Int.{div_ceil}
use Rattle.quantity_limits.specs.declared.TheConstants.{MOST_ROWS, MOST_CELLS}

-- the rows of a database, and how many bytes each has
pub record Database : Type 0 where
  pub rows : List (List ℕ)
  pub width : ℕ

-- the most bytes of a file with rows of so many bytes
abbrev pub limit : ℕ → ℕ
limit width = width * min MOST_ROWS (MOST_CELLS / width)

-- the bytes, filled up with zeros to whole rows
abbrev pub filled_up : ℕ → List ℕ → List ℕ
filled_up width bytes = bytes ++ replicate (div_ceil (length bytes) width * width - length bytes) 0

-- row j: the bytes from j * width on, as many as a row has
abbrev pub row_at : ℕ → List ℕ → ℕ → List ℕ
row_at width bytes j = slice_range bytes (j * width) (j * width + width)

-- so many rows, one after the other
unfoldable pub rows_of : ℕ → ℕ → List ℕ → List (List ℕ)
rows_of width count bytes = map (row_at width bytes) (range_with_len 0 count)

-- the database in a file of these bytes
unfoldable pub database : ℕ → List ℕ → Database
database width bytes = record { rows = rows_of width (div_ceil (length bytes) width) (filled_up width bytes); width = width }
