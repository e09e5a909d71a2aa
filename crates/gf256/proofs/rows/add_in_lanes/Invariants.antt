use Rattle.std.proofs.Common.{◌-◌, ◌≤◌, length, slice_index}
use Rattle.gf256.specs.Rows.{IsAdded}
use Rattle.gf256.proofs.rows.add_in_lanes.Given as goal

abbrev pub invariant-lanes : goal.invariant-lanes
invariant-lanes l = record {
  within : l.at ≤ length l.acc;
  added : IsAdded l.acc l.initial.acc (slice_index l.row) 0 l.at;
}

abbrev pub decreases-lanes : goal.decreases-lanes
decreases-lanes l = length l.initial.acc - l.at
