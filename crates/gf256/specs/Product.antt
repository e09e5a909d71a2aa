-- A database as a matrix, and what a server answers: the product of a query and the matrix
-- (Goldberg 2007).
use Rattle.std.specs.Prelude.{◌≡◌, ◌<◌, ℕ, List, [], length, map, slice_index, slice_index_or, All}
use Rattle.std.specs.List.{range_with_len}
use Rattle.gf256.specs.Field.{◌⊗◌}
use Rattle.gf256.specs.Sums.{sum_to}

-- r rows of s bytes each
pub record IsMatrix (matrix : List (List ℕ)) (r s : ℕ) : Type 0 where
  pub rows : length matrix ≡ r
  pub widths : All (λ row. length row ≡ s) matrix
  pub bytes : All (λ row. All (λ b. b < 256) row) matrix

-- column c of the product of a query and a matrix, given as the list of its rows: the sum over the
-- rows j of byte j of the query times column c of row j
unfoldable pub product_at : List ℕ → List (List ℕ) → ℕ → ℕ
product_at query rows c =
    sum_to (λ j. slice_index query j ⊗ slice_index (slice_index_or rows j []) c) (length rows)

-- the product: a byte for each of so many columns
unfoldable pub product : List (List ℕ) → ℕ → List ℕ → List ℕ
product rows width query = map (product_at query rows) (range_with_len 0 width)
