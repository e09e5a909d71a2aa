-- Rows of given lengths, one after the other, as the places of a vector.
use Rattle.std.specs.Prelude.{◌≡◌, ◌≢◌, ◌⊎◌, ℕ, ◌+◌, ◌*◌, ◌/◌, ◌<◌, ◌≤◌, List, length, take, drop, slice_index, slice_index_or, sum}
use Rattle.bi_poly.specs.Rows.{row}
use Rattle.linear_solve.specs.Matrix.{Matrix, entry}
use Rattle.gs_interpolate.specs.Conditions.{derivative_of}
use Rattle.gs_interpolate.specs.declared.condition.Condition.{Condition}

-- where row j begins
abbrev pub start : List ℕ → ℕ → ℕ
start lengths j = sum (take j lengths)

-- rows of these lengths have so many coefficients together, and only such at x ^ i * y ^ j with i + t * j <= d
pub record IsLayout (lengths : List ℕ) (size t d : ℕ) : Type 0 where
  pub sum : sum lengths ≡ size
  pub rows : length lengths ≤ d / t + 1
  pub within : (j : ℕ) → j < length lengths → slice_index lengths j + t * j ≤ d + 1

-- in row r and that column the table has the condition's derivative of x ^ i * y ^ j
abbrev pub IsCoefficient : Matrix → ℕ → ℕ → Condition → ℕ → ℕ → Type 0
IsCoefficient m r column c i j = entry m r column ≡ derivative_of c i j

-- row r of the table says the condition of the coefficients of a polynomial: at the place of the coefficient at
-- x ^ i * y ^ j it has the derivative of x ^ i * y ^ j
abbrev pub IsEquation : Matrix → ℕ → List ℕ → Condition → Type 0
IsEquation m r lengths c = (j i : ℕ) → j < length lengths → i < slice_index lengths j
    → IsCoefficient m r (start lengths j + i) c i j

-- its rows say the conditions, one after the other
abbrev pub AreEquations : Matrix → List ℕ → List Condition → Type 0
AreEquations m lengths cs = (r : ℕ) (c : Condition) → r < length cs → IsEquation m r lengths (slice_index_or cs r c)

-- nothing changed in the other rows, nor in row r before that column
abbrev pub KeepsBefore : Matrix → Matrix → ℕ → ℕ → Type 0
KeepsBefore now before r column = (s k : ℕ) → k < before.cols → (s ≢ r) ⊎ (k < column) → entry now s k ≡ entry before s k

-- q has rows of these lengths, that one after the other are the vector
pub record IsCut (q : List (List ℕ)) (lengths v : List ℕ) : Type 0 where
  pub rows : length q ≡ length lengths
  pub each : (j : ℕ) → j < length lengths → row q j ≡ take (slice_index lengths j) (drop (start lengths j) v)
