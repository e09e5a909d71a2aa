use Rattle.std.proofs.Common.{◌-◌, ◌≤◌, length}
use Rattle.gf256.specs.Rows.{multiple, IsAdded}
use Rattle.gf256.proofs.rows.add_scaled_in_lanes.Given as goal

abbrev pub invariant-lanes : goal.invariant-lanes
invariant-lanes l = record {
  within : l.at ≤ length l.acc;
  added : IsAdded l.acc l.initial.acc (multiple l.row l.products) 0 l.at;
}

abbrev pub decreases-lanes : goal.decreases-lanes
decreases-lanes l = length l.initial.acc - l.at
