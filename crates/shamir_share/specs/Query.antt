-- What each server is asked: the shares of a unit vector (Shamir 1979; Goldberg 2007).
use Rattle.std.specs.Prelude.{ℕ, ◌*◌, List, ◌∷◌, take, drop, map, ◌==◌, if◌then◌else◌}
use Rattle.std.specs.List.{range_with_len}
use Rattle.gf256.specs.Field.{◌⊗◌}
use Rattle.gf256.specs.Polynomial.{val}

-- the t coins of row j
unfoldable pub row_coins : List ℕ → ℕ → ℕ → List ℕ
row_coins coins t j = take t (drop (j * t) coins)

-- the polynomial of row j: its constant is 1 at the block and 0 elsewhere, and the coins of the row
-- are the others
unfoldable pub row_polynomial : List ℕ → ℕ → ℕ → ℕ → List ℕ
row_polynomial coins t block j = (if j == block then 1 else 0) ∷ row_coins coins t j

-- the query of the server with this index: the value there of the polynomial of each of the r rows
unfoldable pub query : List ℕ → ℕ → ℕ → ℕ → ℕ → List ℕ
query coins t r block index =
    map (λ j. val (row_polynomial coins t block j) index) (range_with_len 0 r)

-- the same without a block
unfoldable pub masks : List ℕ → ℕ → ℕ → ℕ → List ℕ
masks coins t r index = map (λ j. index ⊗ val (row_coins coins t j) index) (range_with_len 0 r)
