-- Columns of several rows at once.
use Rattle.std.specs.Prelude.{◌≡◌, ℕ, ◌+◌, ◌<◌, ◌≤◌, List, [], length, slice_index, slice_index_or}
use Rattle.gf256.specs.Field.{◌⊕◌, ◌⊗◌}
use Rattle.gf256.specs.Sums.{sum_to}
use Rattle.column_runs.specs.Lagrange.{extended}

-- the byte of row i in a column
abbrev pub cell : List (List ℕ) → ℕ → ℕ → ℕ
cell rows column i = slice_index (slice_index_or rows i []) column

-- a byte, plus each factor times the byte in column c of its row of differences
unfoldable pub with_differences : List ℕ → List (List ℕ) → ℕ → ℕ → ℕ
with_differences factors differences first c =
    first ⊕ sum_to (λ i. slice_index factors i ⊗ cell differences c i) (length factors)

-- what the factors give in place c, by the bytes of a first row and the rows of differences
abbrev pub given : List ℕ → List (List ℕ) → List ℕ → ℕ → ℕ
given first differences factors c = with_differences factors differences (slice_index first c) c

-- byte c of a row is the one that is given there
abbrev pub Fits : List ℕ → List (List ℕ) → List ℕ → List ℕ → ℕ → Type 0
Fits first differences factors row c = slice_index row c ≡ given first differences factors c

-- where n is before the end of the first row, byte n of a row is another
abbrev pub Differs : List ℕ → List (List ℕ) → List ℕ → List ℕ → ℕ → Type 0
Differs first differences factors row n = n < length first → ¬ Fits first differences factors row n

-- the first n bytes of a row are those
abbrev pub AreGiven : List ℕ → List (List ℕ) → List ℕ → List ℕ → ℕ → Type 0
AreGiven first differences factors row n =
    (c : ℕ) → c < n → slice_index row c ≡ given first differences factors c

-- what the first n of the factors give there
abbrev pub given_by : List ℕ → List (List ℕ) → List ℕ → ℕ → ℕ → ℕ
given_by first differences factors n c =
    slice_index first c ⊕ sum_to (λ i. slice_index factors i ⊗ cell differences c i) n

-- these rows are as long as those
abbrev pub AreAsLong : List (List ℕ) → List (List ℕ) → Type 0
AreAsLong these those = (i : ℕ) → length (slice_index_or these i []) ≡ length (slice_index_or those i [])

-- the rows of differences begin with what the rows after the first have, from a column on, less what the first has
abbrev pub AreDifferences : List (List ℕ) → List (List ℕ) → ℕ → List ℕ → Type 0
AreDifferences differences rows from first =
    (i c : ℕ) → i < length differences → c < length first
    → cell differences c i ≡ cell rows (from + c) (i + 1) ⊕ slice_index first c

-- a tile of rows: the column where it begins, what the first row has there, and the rows of differences
pub record Tile : Type 0 where
  pub from : ℕ
  pub first : List ℕ
  pub differences : List (List ℕ)

-- the tile from this column on, with these
abbrev pub tile : ℕ → List ℕ → List (List ℕ) → Tile
tile from first differences = record { from = from; first = first; differences = differences }

-- in place c of a tile, each of n rows after those of the differences has the byte that its factors give
abbrev pub Agree : List (List ℕ) → Tile → List (List ℕ) → ℕ → ℕ → Type 0
Agree rows tile others c n =
    (k : ℕ) → k < n → cell rows (tile.from + c) (length tile.differences + 1 + k)
    ≡ with_differences (slice_index_or others k []) tile.differences (slice_index tile.first c) c

-- in a column, each row after the first t + 1 has the byte that its factors give from those of these
abbrev pub Follow : List (List ℕ) → ℕ → List (List ℕ) → ℕ → Type 0
Follow rows t others column =
    (k : ℕ) → k < length others → cell rows column (t + 1 + k) ≡ extended (slice_index_or others k []) (cell rows column)

-- n columns from `from` on in which they do, with the bytes that the factors `zero` give; where there are more bytes, in the
-- column after these they don't
pub record IsTile (rows : List (List ℕ)) (from : ℕ) (others : List (List ℕ)) (zero : List ℕ) (bytes : List ℕ) (n : ℕ) : Type 0 where
  pub within : n ≤ length bytes
  pub follow : (c : ℕ) → c < n → Follow rows (length zero) others (from + c)
  pub constants : (c : ℕ) → c < n → slice_index bytes c ≡ extended zero (cell rows (from + c))
  pub longest : n < length bytes → ¬ Follow rows (length zero) others (from + n)
