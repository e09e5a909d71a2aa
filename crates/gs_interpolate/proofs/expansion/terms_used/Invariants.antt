use Rattle.std.proofs.Common.{◌*◌, ◌<◌, ◌≤◌}
use Rattle.std.specs.Int.{IsPowerOfTwo}
use Rattle.gs_interpolate.proofs.expansion.terms_used.Given as goal

abbrev pub invariant-halves : goal.invariant-halves
invariant-halves l = record {
  power : IsPowerOfTwo l.used;
  few : l.used ≤ l.terms;
  enough : l.used < l.terms → l.len ≤ l.used * l.lanes;
}

abbrev pub decreases-halves : goal.decreases-halves
decreases-halves l = l.used
