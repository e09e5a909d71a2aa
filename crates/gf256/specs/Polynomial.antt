-- Polynomials in one variable over the field. A list is the polynomial that has coefficient e at
-- place e, so that zeros at the end change nothing.
use Rattle.std.specs.Prelude.{◌≡◌, ℕ, ◌+◌, ◌<◌, List, length, slice_index, All}
use Rattle.gf256.specs.Field.{◌⊗◌, power}
use Rattle.gf256.specs.Sums.{sum_to}

-- the coefficient at x ^ e
unfoldable pub coef : List ℕ → ℕ → ℕ
coef p e = slice_index p e

-- the value at a: the sum over e of coefficient e times a ^ e, with a ^ 0 = 1
unfoldable pub val : List ℕ → ℕ → ℕ
val p a = sum_to (λ e. coef p e ⊗ power a e) (length p)

-- a polynomial of degree at most t, as t + 1 bytes
pub record IsPolynomial (t : ℕ) (p : List ℕ) : Type 0 where
  pub size : length p ≡ t + 1
  pub bytes : All (λ c. c < 256) p
