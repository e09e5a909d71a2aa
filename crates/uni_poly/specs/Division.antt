-- Division by x - a.
use Rattle.std.specs.Prelude.{◌≡◌, ℕ, ◌+◌, List, [], ◌∷◌, length}
use Rattle.uni_poly.specs.Coefficients.{IsSum}
use Rattle.uni_poly.specs.Product.{linear, product}

-- p is (x - a) times the quotient, which has one coefficient less, plus the rest
pub record IsDivided (p : List ℕ) (a : ℕ) (quotient : List ℕ) (rest : ℕ) : Type 0 where
  pub size : length quotient + 1 ≡ length p
  pub whole : IsSum p (product quotient (linear a)) (rest ∷ [])
