-- A database in shares (Shamir 1979; Goldberg 2007).
use Rattle.std.specs.Prelude.{ℕ, List, ◌∷◌, length, map, slice_index}
use Rattle.std.specs.List.{range_with_len}
use Rattle.gf256.specs.Polynomial.{val}
use Rattle.shamir_share.specs.Query.{row_coins}

-- the polynomial of position i: its constant is the byte there, and the tau coins of the position
-- are the others
unfoldable pub position_polynomial : List ℕ → List ℕ → ℕ → ℕ → List ℕ
position_polynomial bytes coins tau i = slice_index bytes i ∷ row_coins coins tau i

-- the share of the server with this index: the value there of the polynomial of each position
unfoldable pub share : List ℕ → List ℕ → ℕ → ℕ → List ℕ
share bytes coins tau index =
    map (λ i. val (position_polynomial bytes coins tau i) index) (range_with_len 0 (length bytes))
