-- Several queries and what they give, one after the other in one list.
use Rattle.std.specs.Prelude.{◌≡◌, ℕ, ◌<◌, List, [], ◌+◌, ◌*◌, ◌/◌, ◌%◌, length, slice_index, slice_index_or}
use Rattle.gf256.specs.Field.{◌⊗◌}
use Rattle.gf256.specs.Product.{product}
use Rattle.block_matrix.specs.Database.{Database}
use Rattle.row_workers.specs.Pieces.{piece}

-- what row j gives to place p of the sums of several queries, which has the columns of the first
-- query, then those of the second, and so on
unfoldable pub entry : List ℕ → List (List ℕ) → ℕ → ℕ → ℕ → ℕ
entry queries rows width p j =
    slice_index queries (p / width * length rows + j)
    ⊗ slice_index (slice_index_or rows j []) (p % width)

-- what row j of a matrix gives to place p
abbrev pub entry_of : List ℕ → Database → ℕ → ℕ → ℕ
entry_of queries m = entry queries m.rows m.width

-- so many products of queries and a matrix, one after the other
abbrev pub AreProducts : Database → ℕ → List ℕ → List ℕ → Type 0
AreProducts m n queries out =
    (v : ℕ) → v < n → piece m.width out v ≡ product m.rows m.width (piece (length m.rows) queries v)
