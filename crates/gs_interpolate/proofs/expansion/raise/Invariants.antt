use Rattle.std.proofs.Common.{◌-◌, ◌≤◌, length}
use Rattle.gs_interpolate.specs.Expansion.{AreRaised}
use Rattle.gs_interpolate.proofs.expansion.raise.Given as goal

abbrev pub invariant-wide : goal.invariant-wide
invariant-wide l = record {
  within : l.at ≤ length l.sums;
  raised : AreRaised l.products l.row l.sums l.fn.sums l.at;
}

abbrev pub decreases-wide : goal.decreases-wide
decreases-wide l = length l.initial.sums - l.at

abbrev pub invariant-lanes : goal.invariant-lanes
invariant-lanes l = record {
  within : l.at ≤ length l.sums;
  raised : AreRaised l.products l.row l.sums l.fn.sums l.at;
}

abbrev pub decreases-lanes : goal.decreases-lanes
decreases-lanes l = length l.initial.sums - l.at

abbrev pub invariant-loop-k : goal.invariant-loop-k
invariant-loop-k l = AreRaised l.products l.row l.sums l.fn.sums l.k
