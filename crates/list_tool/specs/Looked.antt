-- What a look-up comes to.
use Rattle.std.specs.Prelude.{◌≡◌, ℕ, List, [], slice_index_or, Option, Some, None}
use Rattle.list_finds.specs.Answers.{HasNoBroken, IsFirstBroken}
use Rattle.list_finds.specs.Found.{Come}
use Rattle.list_finds.specs.Known.{row_in}
use Rattle.list_tool.specs.declared.table.ListTable.{ListTable}

-- what the search came to, and the broken row that is named
pub record Looked : Type 0 where
  pub come : Come
  pub row : Option ℕ

-- the row of the first key whose row is broken is named, where each verdict listed one block
abbrev pub NamesRow : ListTable → List (List ℕ) → Come → Option ℕ → Type 0
NamesRow table keys come (Some row) = (come.unlisted ≡ None) × ((place : ℕ) × IsFirstBroken come.answers place
    × (row ≡ row_in table.list table.rows (slice_index_or keys place [])))
NamesRow table keys come None = come.unlisted ≡ None → HasNoBroken come.answers
