-- Products of polynomials.
use Rattle.std.specs.Prelude.{ℕ, zero, suc, ◌+◌, ◌-◌, List, [], ◌∷◌, length, map, fold}
use Rattle.std.specs.List.{range_with_len}
use Rattle.gf256.specs.Field.{◌⊗◌}
use Rattle.gf256.specs.Sums.{sum_to}
use Rattle.gf256.specs.Polynomial.{coef}
use Rattle.uni_poly.specs.Coefficients.{IsBytes, IsSame}

-- the polynomial x - a, which is x + a too
abbrev pub linear : ℕ → List ℕ
linear a = a ∷ 1 ∷ []

-- coefficient e of the product of p and q: the sum of p[i] times q[e - i]
unfoldable pub product_coef : List ℕ → List ℕ → ℕ → ℕ
product_coef p q e = sum_to (λ i. coef p i ⊗ coef q (e - i)) (e + 1)

-- the product of p and q, as many coefficients as both have, less one
unfoldable pub product : List ℕ → List ℕ → List ℕ
product p q = map (product_coef p q) (range_with_len 0 (length p + length q - 1))

-- the vanishing polynomial of xs: the product of x - a over the members a
unfoldable pub vanishing : List ℕ → List ℕ
vanishing xs = fold (λ p a. product p (linear a)) (1 ∷ []) xs

-- p times x - a, m times
unfoldable pub times_linear : List ℕ → ℕ → ℕ → List ℕ
times_linear p a zero = p
times_linear p a (suc m) = product (times_linear p a m) (linear a)

-- (x - a)^m divides p
abbrev pub HasFactor : List ℕ → ℕ → ℕ → Type 0
HasFactor p a m = (q : List ℕ) × IsBytes q × IsSame p (times_linear q a m)
