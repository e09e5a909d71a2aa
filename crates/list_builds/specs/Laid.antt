-- A list that is ready to be written: under its salt, as its entries ascend, with the shape of its table.
use Rattle.std.specs.Prelude.{ℕ, List}
use Rattle.std.specs.List.{concat}
use Rattle.key_table.specs.KeyList.{tag_of}
use Rattle.key_table.specs.Rows.{Rows}
use Rattle.key_table.specs.Sorting.{Sorted}
use Rattle.key_table.specs.Table.{Making}
use Rattle.key_table.specs.declared.shape.Shape.{Shape}
use Rattle.list_builds.specs.TableBytes.{table_of}

-- the salt, the entries as they ascend, and the shape of the table
pub record Laid : Type 0 where
  pub salt : List ℕ
  pub sorted : Sorted
  pub shape : Shape

-- the tag of the list
abbrev pub tag_in : Laid → List ℕ
tag_in laid = tag_of laid.salt laid.sorted.most laid.sorted.pairs

-- what each row of its table is made by
abbrev pub making_in : Laid → Making
making_in laid = record { tag = tag_in laid; size = laid.sorted.size; most = laid.sorted.most; rows = laid.shape.rows }

-- its rows, of which none is written
abbrev pub rows_in : Laid → Rows
rows_in laid = record { sorted = laid.sorted; tag = tag_in laid; rows = laid.shape.rows; width = laid.shape.width; next = 0 }

-- its table, and the bytes of all rows
abbrev pub table_in : Laid → List (List ℕ)
table_in laid = table_of (rows_in laid)

abbrev pub bytes_in : Laid → List ℕ
bytes_in laid = concat (table_in laid)
