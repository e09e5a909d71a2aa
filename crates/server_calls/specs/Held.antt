-- A database whose rows a caller holds.
use Rattle.std.specs.Prelude.{ℕ, ◌≡◌, ◌*◌, List, length}
use Rattle.quantity_limits.specs.Shape.{IsShape}
use Rattle.block_matrix.specs.Database.{Database, rows_of}
use Rattle.server_calls.specs.declared.sums.HeldRows.{HeldRows}

-- the bytes are so many rows of so many bytes, as a database may have
pub record AreRows (bytes : List ℕ) (count width : ℕ) : Type 0 where
  pub shape : IsShape count width
  pub whole : length bytes ≡ count * width

-- the database of these rows
abbrev pub database_of : List ℕ → ℕ → ℕ → Database
database_of bytes count width = record { rows = rows_of width count bytes; width = width }

-- the same, of rows that are held
abbrev pub held_database : HeldRows → Database
held_database rows = database_of rows.bytes.now rows.count rows.width
