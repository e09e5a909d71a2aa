-- How a search by key stands, and what a row that it is told makes of that.
use Rattle.std.specs.Prelude.{◌≡◌, ℕ, ◌+◌, ◌-◌, ◌/◌, ◌^◌, ◌<◌, ◌≤◌, ◌||◌, nat_lt, nat_le, Bool, false, true, if◌then◌else◌, List, length, take, Option, Some, None, is_some}
use Rattle.std.specs.Cmp.Lexicographic.{slice_cmp}
use Rattle.std.specs.declared.cmp.Ordering.{Ordering}
use Rattle.std.specs.declared.cmp.Ordering.TheVariants.{Less, Equal, Greater}
use Rattle.std.specs.Int.{w32, leading_zeros}
use Rattle.std.specs.Option.{option_or}
use Rattle.std.specs.Ordering.{nat_cmp}

-- how a search stands: it looks for the row that begins with the key, among rows of that width; turn of them were told;
-- those from `from` up to `to`, without `to`, may still have the key; what was found; and whether a row was lost
pub record Standing : Type 0 where
  pub rows : ℕ
  pub width : ℕ
  pub key : List ℕ
  pub turn : ℕ
  pub from : ℕ
  pub to : ℕ
  pub found : Option (List ℕ)
  pub is_lost : Bool

-- what holds of the fields of a search, with room for a row
pub record IsInBounds (rows width : ℕ) (key : List ℕ) (from to : ℕ) (row : List ℕ) : Type 0 where
  pub some : 1 ≤ rows
  pub few : rows < 2 ^ 32
  pub ordered : from ≤ to
  pub within : to ≤ rows
  pub fits : length key ≤ width
  pub room : length row ≡ width

-- the number of turns: that of the binary digits of the number of rows
abbrev pub turns_of : ℕ → ℕ
turns_of rows = 32 - leading_zeros w32 rows

-- how a search begins
abbrev pub standing_at_start : ℕ → ℕ → List ℕ → Standing
standing_at_start rows width key = record {
  rows = rows;
  width = width;
  key = key;
  turn = 0;
  from = 0;
  to = rows;
  found = None;
  is_lost = false;
}

-- the middle one of the rows that may still have the key
abbrev pub middle_row : Standing → ℕ
middle_row s = s.from + (s.to - s.from) / 2

-- the row that is asked for
abbrev pub asked_row : Standing → ℕ
asked_row s = if s.is_lost || is_some s.found || nat_le s.to s.from then 0 else middle_row s

-- how the first bytes of a row, as many as the key has, stand beside the key
abbrev pub key_order : List ℕ → List ℕ → Ordering
key_order key row = slice_cmp nat_cmp (take (length key) row) key

-- the rows after the middle one are left, where there are any
abbrev pub left_above : Standing → Standing
left_above s = if nat_lt s.from s.to then record s { from = middle_row s + 1 } else s

-- the rows before the middle one are left, where there are any
abbrev pub left_below : Standing → Standing
left_below s = if nat_lt s.from s.to then record s { to = middle_row s } else s

-- the row is found, where none was before
abbrev pub with_found : List ℕ → Standing → Standing
with_found row s = record s { found = option_or s.found (Some row) }

-- what a row makes of a search, by how it stands beside the key
abbrev pub standing_by : Ordering → List ℕ → Standing → Standing
standing_by Less row s = left_above s
standing_by Equal row s = with_found row s
standing_by Greater row s = left_below s

-- what a row that was told makes of a search, or that it was lost
abbrev pub standing_after : Standing → Option (List ℕ) → Standing
standing_after s (Some row) = standing_by (key_order s.key row) row (record s { turn = s.turn + 1 })
standing_after s None = record s { turn = s.turn + 1; is_lost = true }

-- a turn later the search still looks for the same
pub record IsNextTurn (old new : Standing) : Type 0 where
  pub rows : new.rows ≡ old.rows
  pub width : new.width ≡ old.width
  pub key : new.key ≡ old.key
  pub turn : new.turn ≡ old.turn + 1
