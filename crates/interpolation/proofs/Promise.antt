-- What follows from the promise of an interpolation, whatever keeps it.
use Rattle.std.proofs.Common.{ℕ, ◌/◌, ◌≤◌, List, arith}
use Rattle.bi_poly.specs.Rows.{IsWithinLimits}
use Rattle.interpolation.specs.declared.TheConstants.{MOST_WEIGHTED_DEGREE}
use Rattle.interpolation.specs.Interpolant.{IsInterpolant}

-- the polynomial is small enough for each call of bi_poly
pub within_limits : (q : List (List ℕ)) (points : List (ℕ × ℕ)) (m t d : ℕ) → IsInterpolant q points m t d → 1 ≤ t → d ≤ MOST_WEIGHTED_DEGREE → IsWithinLimits q
within_limits q points m t d h some small = record {
  rows = let rows = h.rows in omega (arith, quotient d t some);
  each = λ j. let each = h.each j in omega arith;
}
  where
    quotient : (d t : ℕ) → 1 ≤ t → d / t ≤ d
    quotient d t some = omega arith
