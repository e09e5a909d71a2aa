-- The polynomial that hides a block from a coalition: it is 1 at 0, and 0 at each member (Shamir
-- 1979).
use Rattle.std.specs.Prelude.{ℕ, List, [], ◌∷◌, fold}
use Rattle.gf256.specs.Field.{inverse}
use Rattle.uni_poly.specs.Product.{product}

-- the polynomial 1 - x/a, which is 1 + x/a too
abbrev pub factor : ℕ → List ℕ
factor a = 1 ∷ inverse a ∷ []

-- the product of 1 - x/a over the members a of the coalition
unfoldable pub hiding : List ℕ → List ℕ
hiding coalition = fold (λ p a. product p (factor a)) (1 ∷ []) coalition
