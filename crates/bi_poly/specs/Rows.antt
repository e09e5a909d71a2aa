-- Polynomials in two variables. A list of rows is the polynomial whose row j, a polynomial in x,
-- stands before y ^ j, so that zeros at the end of a row, and rows of zeros at the end, change
-- nothing.
use Rattle.std.specs.Prelude.{◌≡◌, ℕ, ◌<◌, ◌≤◌, List, [], length, map, slice_index_or}
use Rattle.gf256.specs.Polynomial.{coef}

-- row j, which past the last row is empty
abbrev pub row : List (List ℕ) → ℕ → List ℕ
row q j = slice_index_or q j []

-- the coefficient at x ^ i * y ^ j
unfoldable pub cell : List (List ℕ) → ℕ → ℕ → ℕ
cell q j i = coef (row q j) i

-- each coefficient is 0
abbrev pub IsZero : List (List ℕ) → Type 0
IsZero q = (j i : ℕ) → cell q j i ≡ 0

-- each coefficient is a byte
abbrev pub AreBytes : List (List ℕ) → Type 0
AreBytes q = (j i : ℕ) → cell q j i < 256

-- column i, a polynomial in y: what stands before x ^ i
abbrev pub column : List (List ℕ) → ℕ → List ℕ
column q i = map (λ r. coef r i) q

-- at most 2^16 + 1 rows, each of at most 2^31 coefficients
pub record IsWithinLimits (q : List (List ℕ)) : Type 0 where
  pub rows : length q ≤ 65537
  pub each : (j : ℕ) → length (row q j) ≤ 2147483648

-- w is the length of the longest row
pub record IsWidth (q : List (List ℕ)) (w : ℕ) : Type 0 where
  pub enough : (j : ℕ) → length (row q j) ≤ w
  pub least : (n : ℕ) → ((j : ℕ) → length (row q j) ≤ n) → w ≤ n
