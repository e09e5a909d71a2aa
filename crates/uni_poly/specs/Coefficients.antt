-- What a list of coefficients says as a polynomial, where zeros at the end change nothing.
use Rattle.std.specs.Prelude.{◌≡◌, ℕ, ◌<◌, ◌≤◌, List, length}
use Rattle.gf256.specs.Field.{◌⊕◌, ◌⊗◌}
use Rattle.gf256.specs.Polynomial.{coef}

-- each coefficient is a byte
abbrev pub IsBytes : List ℕ → Type 0
IsBytes p = (e : ℕ) → coef p e < 256

-- each coefficient is 0
abbrev pub IsZero : List ℕ → Type 0
IsZero p = (e : ℕ) → coef p e ≡ 0

-- p and q are the same polynomial
abbrev pub IsSame : List ℕ → List ℕ → Type 0
IsSame p q = (e : ℕ) → coef p e ≡ coef q e

-- the degree is less than n: the coefficients from x ^ n on are 0
abbrev pub HasDegreeBelow : List ℕ → ℕ → Type 0
HasDegreeBelow p n = (e : ℕ) → n ≤ e → coef p e ≡ 0

-- `sum` is p plus q
abbrev pub IsSum : List ℕ → List ℕ → List ℕ → Type 0
IsSum sum p q = (e : ℕ) → coef sum e ≡ coef p e ⊕ coef q e

-- `sum` is p plus factor times q, and as long a list as p
pub record IsScaledSum (sum p q : List ℕ) (factor : ℕ) : Type 0 where
  pub size : length sum ≡ length p
  pub each : (e : ℕ) → coef sum e ≡ coef p e ⊕ factor ⊗ coef q e
