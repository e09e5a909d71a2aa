-- The sums of several queries in blocks of so many lanes: the sums of as many columns for the first
-- query, then those of the same columns for the second, and so on, and then the next columns.
use Rattle.std.specs.Prelude.{◌≡◌, ◌⊎◌, ℕ, ◌<◌, ◌≤◌, List, ◌+◌, ◌-◌, ◌*◌, ◌/◌, ◌%◌, min, slice_index}
use Rattle.gf256.specs.Field.{◌⊕◌}
use Rattle.gf256.specs.Rows.{IsAdded}
use Rattle.gf256.specs.declared.vectors.TheConstants.{LANES}

-- the first of the columns of block i: the last block ends where the row ends
abbrev pub block_start : ℕ → ℕ → ℕ → ℕ
block_start lanes width i = min (lanes * i) (width - lanes)

-- the column of place p of the sums of n queries
abbrev pub column_at : ℕ → ℕ → ℕ → ℕ → ℕ
column_at lanes width n p = block_start lanes width (p / lanes / n) + p % lanes

-- the query of that place
abbrev pub query_at : ℕ → ℕ → ℕ → ℕ
query_at lanes n p = p / lanes % n

-- the place of that sum where the sums lie query after query
abbrev pub laid_at : ℕ → ℕ → ℕ → ℕ → ℕ
laid_at lanes width n p = query_at lanes n p * width + column_at lanes width n p

-- what row j gives and the three that follow each so many rows after the one before
abbrev pub four_of : (ℕ → ℕ) → ℕ → ℕ → ℕ
four_of f j apart = f j ⊕ f (j + apart) ⊕ f (j + 2 * apart) ⊕ f (j + 3 * apart)

-- the first place where the sum of query v in column c stands
abbrev pub place_of : ℕ → ℕ → ℕ → ℕ → ℕ → ℕ
place_of lanes width n v c =
    lanes * (c / lanes * n + v) + (c - block_start lanes width (c / lanes))

-- `new` is `old` plus g in block i of the sums of n queries, and `old` elsewhere
abbrev pub IsAddedInBlock : ℕ → (ℕ → ℕ) → ℕ → ℕ → List ℕ → List ℕ → Type 0
IsAddedInBlock lanes g n i old new = IsAdded new old g (lanes * (i * n)) (lanes * (i * n + n))

-- these are the sums of query v of n, which lie in blocks
abbrev pub AreOfQuery : ℕ → List ℕ → ℕ → ℕ → ℕ → List ℕ → Type 0
AreOfQuery lanes blocks width n v sums =
    (c : ℕ) → c < width → slice_index sums c ≡ slice_index blocks (place_of lanes width n v c)

-- these are the sums of all n, those of the first first
abbrev pub AreLaidOut : ℕ → List ℕ → ℕ → ℕ → List ℕ → Type 0
AreLaidOut lanes blocks width n sums = (v c : ℕ) → v < n → c < width
    → slice_index sums (v * width + c) ≡ slice_index blocks (place_of lanes width n v c)

-- rows of so many bytes are taken in blocks of 32 columns, and not of 16: they have as many, and the last block repeats fewer than
-- 16 of the one before, or there are many blocks
abbrev pub FitsWideBlocks : ℕ → Type 0
FitsWideBlocks width = (LANES ≤ width) × ((width % LANES ≡ 0) ⊎ (16 < width % LANES) ⊎ (1024 ≤ width))
