-- What interpolation with multiplicities gives (Guruswami and Sudan 1999).
use Rattle.std.specs.Prelude.{◌≢◌, ℕ, ◌+◌, ◌*◌, ◌/◌, ◌≤◌, List, length, All}
use Rattle.bi_poly.specs.Rows.{row, cell, IsZero}
use Rattle.bi_poly.specs.Hasse.{HasZero}

-- q is not 0, has the (1, t)-weighted degree d or less, and has a zero of multiplicity m or more at each of the points. It
-- has no more rows, and none of them more coefficients, than such a polynomial needs
pub record IsInterpolant (q : List (List ℕ)) (points : List (ℕ × ℕ)) (m t d : ℕ) : Type 0 where
  pub nonzero : ¬ IsZero q
  pub weighted_degree : (j i : ℕ) → cell q j i ≢ 0 → i + t * j ≤ d
  pub zeros : All (λ p. HasZero q p.0 p.1 m) points
  pub rows : length q ≤ d / t + 1
  pub each : (j : ℕ) → length (row q j) ≤ d + 1
