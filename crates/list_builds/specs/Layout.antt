-- Laying out a gathered list: its entries as they ascend, and the shape of its table.
use Rattle.std.specs.Prelude.{◌≡◌, ℕ, ◌+◌, ◌<◌, ◌≤◌, List, length, All, Option, None, Some, IfSome, Result, Ok, Err}
use Rattle.quantity_limits.specs.declared.TheConstants.{MOST_ROWS}
use Rattle.key_table.specs.Held.{Held}
use Rattle.key_table.specs.Places.{IsClash}
use Rattle.key_table.specs.Shapes.{ShapesBest, ShapesOf}
use Rattle.key_table.specs.Sorting.{Sorted, Sorts}
use Rattle.key_table.specs.Table.{IsTable}
use Rattle.key_table.specs.declared.TheConstants.{MOST_PAIRS, MOST_VALUE}
use Rattle.key_table.specs.declared.shape.Shape.{Shape}
use Rattle.key_table.specs.declared.shape.ShapeFault.{ShapeFault}
use Rattle.list_builds.specs.Gathering.{Gathered}
use Rattle.list_builds.specs.Laid.{Laid, making_in, table_in}
use Rattle.list_builds.specs.declared.fault.BuildFault.{BuildFault}
use Rattle.list_builds.specs.declared.fault.BuildFault.TheVariants.{Clash, Unshaped}
use Rattle.list_builds.specs.declared.order.Values.{Values}
use Rattle.list_builds.specs.declared.order.Values.TheVariants.{Absent, UpToLongest, UpTo}

-- how many bytes a value of a list may have, whose longest one has so many
abbrev pub most_for : Values → ℕ → ℕ
most_for Absent longest = 0
most_for UpToLongest longest = longest
most_for (UpTo most) longest = most

-- there are pairs, and no more than may be; no value has more bytes than that, and rows are a number that there may be
pub record CanLayOut (values : Values) (rows : Option ℕ) (list : Gathered) : Type 0 where
  pub some : 0 < length list.held.pairs
  pub few : length list.held.pairs ≤ MOST_PAIRS
  pub short : All (λ p. length p.value ≤ most_for values list.longest) list.held.pairs
  pub most : most_for values list.longest ≤ MOST_VALUE
  pub some_rows : IfSome rows (λ r. 1 ≤ r)
  pub few_rows : IfSome rows (λ r. r ≤ MOST_ROWS)

-- the shape of so many rows, or else the best one
abbrev pub ShapesFor : Option ℕ → Sorted → Result Shape ShapeFault → Type 0
ShapesFor (Some rows) sorted result = ShapesOf sorted rows result
ShapesFor None sorted result = ShapesBest sorted result

-- the list is clear, these are its entries as they ascend, this is the shape of its table, and this the table
pub record IsLaidOut (salt : List ℕ) (most : ℕ) (rows : Option ℕ) (held : Held) (laid : Laid) : Type 0 where
  pub salt_is : laid.salt ≡ salt
  pub sorts : Sorts held most (Ok laid.sorted)
  pub shapes : ShapesFor rows laid.sorted (Ok laid.shape)
  pub is_table : IsTable (making_in laid) salt laid.shape.width held.pairs (table_in laid)

-- the lines of these numbers clash: those at the places of the list's clash, counted from 1
pub record LinesClash (held : Held) (first second : ℕ) : Type 0 where
  pub earlier : ℕ
  pub place : ℕ
  pub clash : IsClash held.pairs earlier place
  pub first_is : first ≡ earlier + 1
  pub second_is : second ≡ place + 1

-- the list is clear, but rows make no database of it
pub record LacksShape (most : ℕ) (rows : Option ℕ) (held : Held) (fault : ShapeFault) : Type 0 where
  pub sorted : Sorted
  pub sorts : Sorts held most (Ok sorted)
  pub shapes : ShapesFor rows sorted (Err fault)

-- what laying out a list answers
abbrev pub LaysOut : List ℕ → Values → Option ℕ → Gathered → Result Laid BuildFault → Type 0
LaysOut salt values rows list (Ok laid) = IsLaidOut salt (most_for values list.longest) rows list.held laid
LaysOut salt values rows list (Err (Clash first second)) = LinesClash list.held first second
LaysOut salt values rows list (Err (Unshaped fault)) = LacksShape (most_for values list.longest) rows list.held fault
LaysOut salt values rows list (Err fault) = ⊥
