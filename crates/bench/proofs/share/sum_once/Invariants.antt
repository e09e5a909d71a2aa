use Rattle.std.proofs.Common.{◌≡◌, ◌-◌, ◌≤◌, length}
use Rattle.bench.proofs.share.sum_once.Given as goal

abbrev pub invariant-lanes : goal.invariant-lanes
invariant-lanes l = (l.at ≤ length l.out) × (length l.out ≡ length l.initial.out)

abbrev pub decreases-lanes : goal.decreases-lanes
decreases-lanes l = length l.initial.out - l.at
