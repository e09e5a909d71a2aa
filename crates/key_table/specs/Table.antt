-- The table of a list: the entries of each row, as one row of bytes.
use Rattle.std.specs.Prelude.{◌≡◌, ℕ, ◌+◌, ◌-◌, ◌*◌, ◌<◌, ◌≤◌, ◌==◌, List, ◌++◌, length, map, replicate, filter, slice_get, All, Some}
use Rattle.std.specs.List.{flat_map}
use Rattle.std.specs.Int.{w16, to_be_bytes}
use Rattle.std.specs.Cmp.Lexicographic.{slice_cmp}
use Rattle.std.specs.Ordering.{nat_cmp}
use Rattle.std.specs.declared.cmp.Ordering.TheVariants.{Less}
use Rattle.key_table.specs.Digest.{row_of}
use Rattle.key_table.specs.Entry.{Pair, IsPair, entry, entry_size}
use Rattle.key_table.specs.KeyList.{AreSorted, Ascend, tag_of}

-- how many bytes stand before the entries of a row: the tag, and how many entries there are
abbrev pub head_size : ℕ
head_size = 10

-- a row of so many bytes: the tag, a count as two bytes, highest first, the entries, and zeros
unfoldable pub framed : ℕ → List ℕ → ℕ → List ℕ → List ℕ
framed width tag count entries =
    tag ++ (to_be_bytes w16 count ++ (entries ++ replicate (width - (head_size + length entries)) 0))

-- a row is the tag, the count of so many entries of so many bytes each, these entries and zeros
pub record IsFrame (tag : List ℕ) (step : ℕ) (row : List ℕ) (n : ℕ) (entries : List ℕ) : Type 0 where
  pub size : length entries ≡ n * step
  pub few : n < 65536
  pub fits : head_size + n * step ≤ length row
  pub is : row ≡ framed (length row) tag n entries

-- a row has these entries
abbrev pub HasFrame : List ℕ → ℕ → List ℕ → List ℕ → Type 0
HasFrame tag step row entries = (n : ℕ) × IsFrame tag step row n entries

-- a row is that of no entries
abbrev pub LacksFrame : List ℕ → ℕ → List ℕ → Type 0
LacksFrame tag step row = (n : ℕ) (entries : List ℕ) → IsFrame tag step row n entries → ⊥

-- the row of these pairs: their entries one behind another, and how many there are
abbrev pub table_row : ℕ → List ℕ → ℕ → List Pair → List ℕ
table_row width tag most pairs = framed width tag (length pairs) (flat_map (entry most) pairs)

-- what each row of a table is made by: the tag of its list, the bytes of a digest, the most bytes of a value, and the
-- number of rows
pub record Making : Type 0 where
  pub tag : List ℕ
  pub size : ℕ
  pub most : ℕ
  pub rows : ℕ

-- these pairs may stand in that row: their digests ascend, each has that row, and their values are values
pub record MayStandIn (size most rows j : ℕ) (pairs : List Pair) : Type 0 where
  pub each : All (IsPair size most) pairs
  pub ascend : Ascend (map (λ p. p.digest) pairs)
  pub placed : All (λ p. row_of rows p.digest ≡ j) pairs

-- the bytes are the entries of such pairs, one behind another
pub record AreEntries (size most rows j : ℕ) (bytes : List ℕ) : Type 0 where
  pub pairs : List Pair
  pub may : MayStandIn size most rows j pairs
  pub is : bytes ≡ flat_map (entry most) pairs

-- the bytes are the entry of a pair that may stand in row j behind a pair with that digest
pub record Follows (size most rows j : ℕ) (last bytes : List ℕ) (p : Pair) : Type 0 where
  pub is_pair : IsPair size most p
  pub is_entry : bytes ≡ entry most p
  pub above : slice_cmp nat_cmp last p.digest ≡ Less
  pub placed : row_of rows p.digest ≡ j

-- row j of some table is these bytes, and has these pairs
pub record IsRowOf (m : Making) (j : ℕ) (row : List ℕ) (pairs : List Pair) : Type 0 where
  pub may : MayStandIn m.size m.most m.rows j pairs
  pub fits : head_size + entry_size m.size m.most * length pairs ≤ length row
  pub is : row ≡ table_row (length row) m.tag m.most pairs

-- the pairs whose digest has that row, in their order
abbrev pub pairs_in : ℕ → ℕ → List Pair → List Pair
pairs_in rows j pairs = filter (λ p. row_of rows p.digest == j) pairs

-- the table of a list, in rows of so many bytes: each has those entries, as they ascend, whose digest has that row
pub record IsTable (m : Making) (salt : List ℕ) (width : ℕ) (list : List Pair) (table : List (List ℕ)) : Type 0 where
  pub sorted : List Pair
  pub is_sorted : AreSorted m.most list sorted
  pub tag : m.tag ≡ tag_of salt m.most sorted
  pub rows : length table ≡ m.rows
  pub fits : (j : ℕ) → j < m.rows → head_size + entry_size m.size m.most * length (pairs_in m.rows j sorted) ≤ width
  pub row : (j : ℕ) → j < m.rows → slice_get table j ≡ Some (table_row width m.tag m.most (pairs_in m.rows j sorted))
