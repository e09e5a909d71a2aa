-- What several bitmaps ask for, one after the other in one list.
use Rattle.std.specs.Prelude.{◌≡◌, ℕ, ◌<◌, List, ◌/◌, ◌%◌, length}
use Rattle.block_matrix.specs.Database.{Database}
use Rattle.row_workers.specs.Pieces.{piece}
use Rattle.chor_xor.specs.Bitmap.{size_of}
use Rattle.chor_xor.specs.Chosen.{given, chosen}

-- what row j gives to place p of the sums of several bitmaps, which has the columns of the first
-- bitmap, then those of the second, and so on
unfoldable pub asked : List ℕ → List (List ℕ) → ℕ → ℕ → ℕ → ℕ
asked bitmaps rows width p j =
    given (piece (size_of (length rows)) bitmaps (p / width)) rows (p % width) j

-- what row j of a matrix gives to place p
abbrev pub asked_of : List ℕ → Database → ℕ → ℕ → ℕ
asked_of bitmaps m = asked bitmaps m.rows m.width

-- the answers to n bitmaps, one after the other
abbrev pub AreAnswers : Database → ℕ → List ℕ → List ℕ → Type 0
AreAnswers m n bitmaps out =
    (v : ℕ) → v < n → piece m.width out v ≡ chosen m (piece (size_of (length m.rows)) bitmaps v)
