use Rattle.std.proofs.Common.{◌≡◌, ◌+◌, ◌-◌, ◌*◌, ◌≤◌}
use Rattle.interpolation.specs.declared.TheConstants.{MOST_WEIGHTED_DEGREE}
use Rattle.interpolation.specs.Monomials.{monomials, monomials_below}
use Rattle.algebra_tests.proofs.plans.count_monomials.Given as goal

abbrev pub invariant-loop-row : goal.invariant-loop-row
invariant-loop-row l = record {
  so_far : l.total + monomials_below (l.d + 1 - l._row) l.t l.left ≡ monomials l.t l.d;
  small : l.total ≤ l._row * MOST_WEIGHTED_DEGREE;
  left : l.left ≤ MOST_WEIGHTED_DEGREE;
}
