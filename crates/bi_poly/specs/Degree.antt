-- Weighted degrees (Guruswami and Sudan 1999), and the powers of x that divide a polynomial.
use Rattle.std.specs.Prelude.{◌≡◌, ◌≢◌, ℕ, ◌+◌, ◌*◌, ◌<◌, ◌≤◌, List, map, drop}
use Rattle.gf256.specs.Polynomial.{coef}
use Rattle.bi_poly.specs.Rows.{cell}

-- x ^ d is the highest power of x with a coefficient of p that is not 0
pub record IsDegree (p : List ℕ) (d : ℕ) : Type 0 where
  pub reached : coef p d ≢ 0
  pub highest : (e : ℕ) → d < e → coef p e ≡ 0

-- x ^ d is the lowest power of x with a coefficient of p that is not 0
pub record IsOrder (p : List ℕ) (d : ℕ) : Type 0 where
  pub reached : coef p d ≢ 0
  pub lowest : (e : ℕ) → e < d → coef p e ≡ 0

-- w is the greatest i + t * j of a coefficient, at x ^ i * y ^ j, that is not 0
pub record IsWeightedDegree (q : List (List ℕ)) (t w : ℕ) : Type 0 where
  pub reached : (j : ℕ) × (i : ℕ) × (cell q j i ≢ 0) × (i + t * j ≡ w)
  pub greatest : (j i : ℕ) → cell q j i ≢ 0 → i + t * j ≤ w

-- x ^ d is the lowest power of x with a coefficient of q that is not 0, so the greatest that
-- divides q
pub record IsOrderInX (q : List (List ℕ)) (d : ℕ) : Type 0 where
  pub reached : (j : ℕ) × (cell q j d ≢ 0)
  pub lowest : (j i : ℕ) → i < d → cell q j i ≡ 0

-- each row without its first n coefficients: the quotient of q by x ^ n, where x ^ n divides q
abbrev pub without_first : ℕ → List (List ℕ) → List (List ℕ)
without_first n q = map (drop n) q
