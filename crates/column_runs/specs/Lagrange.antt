-- The value of a polynomial anywhere, by its values at enough places (Lagrange 1795).
use Rattle.std.specs.Prelude.{◌≡◌, ℕ, ◌+◌, ◌<◌, List, [], length, take, drop, slice_index, slice_index_or}
use Rattle.gf256.specs.Field.{◌⊕◌, ◌⊗◌, inverse}
use Rattle.gf256.specs.Sums.{sum_to}
use Rattle.gf256.specs.Polynomial.{val, IsPolynomial}
use Rattle.uni_poly.specs.Product.{product, vanishing}

-- the product of x - a over the members a of xs but that at place j
unfoldable pub basis_polynomial : List ℕ → ℕ → List ℕ
basis_polynomial xs j = product (vanishing (take j xs)) (vanishing (drop (j + 1) xs))

-- the value at a of the multiple of that polynomial which is 1 at the member left out
unfoldable pub factor : List ℕ → ℕ → ℕ → ℕ
factor xs j a = val (basis_polynomial xs j) a ⊗ inverse (val (basis_polynomial xs j) (slice_index xs j))

-- what the value of that polynomial at the member left out is multiplied by to be 1
unfoldable pub weight : List ℕ → ℕ → ℕ
weight xs j = inverse (val (basis_polynomial xs j) (slice_index xs j))

-- the weights of the xs but the first
pub record AreWeights (xs weights : List ℕ) : Type 0 where
  pub size : length xs ≡ length weights + 1
  pub each : (i : ℕ) → i < length weights → slice_index weights i ≡ weight xs (i + 1)

-- the first value, plus the sum of each factor times the difference of the next value from the first
unfoldable pub extended : List ℕ → (ℕ → ℕ) → ℕ
extended factors values = values 0 ⊕ sum_to (λ i. slice_index factors i ⊗ (values (i + 1) ⊕ values 0)) (length factors)

-- these factors, one fewer than the xs, give the value at a of each polynomial of degree below the number of the xs, by its
-- values at these
pub record Extends (xs : List ℕ) (a : ℕ) (factors : List ℕ) : Type 0 where
  pub size : length xs ≡ length factors + 1
  pub value : (phi : List ℕ) → IsPolynomial (length factors) phi → val phi a ≡ extended factors (λ i. val phi (slice_index xs i))

-- factors, by the first t + 1 of the xs, for each of the others and for 0
pub record AreFactors (xs : List ℕ) (t : ℕ) (others : List (List ℕ)) (zero : List ℕ) : Type 0 where
  pub count : length xs ≡ t + 1 + length others
  pub each : (k : ℕ) → k < length others → Extends (take (t + 1) xs) (slice_index xs (t + 1 + k)) (slice_index_or others k [])
  pub constant : Extends (take (t + 1) xs) 0 zero
