-- Sums of rows by the pattern of the bitmaps that ask for them.
use Rattle.std.specs.Prelude.{◌≡◌, ℕ, ◌<◌, List, ◌+◌, ◌-◌, ◌*◌, length, slice_index}
use Rattle.std.specs.Int.{bit_at}
use Rattle.gf256.specs.Field.{◌⊕◌}
use Rattle.gf256.specs.Sums.{sum_to, run_sum}
use Rattle.block_matrix.specs.Database.{Database}
use Rattle.chor_xor.specs.Bitmap.{bit_of, size_of}
use Rattle.chor_xor.specs.Chosen.{given}
use Rattle.row_workers.specs.Pieces.{piece}

-- what the sum of pattern p gives to column c of the bitmap that has bit i: nothing where the
-- pattern doesn't have this bit
unfoldable pub from_pattern : List ℕ → ℕ → ℕ → ℕ → ℕ → ℕ
from_pattern patterns width i c p = bit_at p i * slice_index patterns (p * width + c)

-- what the sums of all patterns give to it
unfoldable pub spread_at : List ℕ → ℕ → ℕ → ℕ → ℕ
spread_at patterns width i c = sum_to (from_pattern patterns width i c) 256

-- which of n bitmaps, of so many bytes, ask for row j: a bit for each, that of the last the least
abbrev pub IsPattern : ℕ → List ℕ → ℕ → ℕ → ℕ → Type 0
IsPattern pattern bitmaps size n j =
    (v : ℕ) → v < n → bit_at pattern (n - 1 - v) ≡ bit_of (piece size bitmaps v) j

-- a row was added to the sum of its pattern
abbrev pub AddsToPattern : ℕ → List ℕ → List ℕ → List ℕ → Type 0
AddsToPattern pattern row old new = (i c : ℕ) → c < length row
    → spread_at new (length row) i c ≡ spread_at old (length row) i c ⊕ bit_at pattern i * slice_index row c

-- the sums by pattern give to each of n bitmaps what it asks for of the rows from `from` up to `to`
abbrev pub AreByPattern : Database → List ℕ → ℕ → ℕ → ℕ → List ℕ → Type 0
AreByPattern m bitmaps n from to patterns = (v c : ℕ) → v < n → c < m.width
    → spread_at patterns m.width (n - 1 - v) c
    ≡ run_sum (given (piece (size_of (length m.rows)) bitmaps v) m.rows c) from to

-- sums of so many columns that the bitmap with bit i gets from those by pattern
abbrev pub IsSpread : List ℕ → ℕ → ℕ → List ℕ → Type 0
IsSpread patterns width i sums =
    (c : ℕ) → c < width → slice_index sums c ≡ spread_at patterns width i c

-- the same for n bitmaps, one after the other
abbrev pub AreSpread : List ℕ → ℕ → ℕ → List ℕ → Type 0
AreSpread patterns width n sums = (v c : ℕ) → v < n → c < width
    → slice_index sums (v * width + c) ≡ spread_at patterns width (n - 1 - v) c
