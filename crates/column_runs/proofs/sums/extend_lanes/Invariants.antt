use Rattle.std.proofs.Common.{◌-◌, ◌≤◌, length}
use Rattle.column_runs.specs.Tile.{AreGiven}
use Rattle.column_runs.proofs.sums.extend_lanes.Given as goal

-- the columns so far
abbrev pub invariant-lanes : goal.invariant-lanes
invariant-lanes g l = record {
  within : l.at ≤ length l.first;
  made : AreGiven l.first l.differences l.factors l.sums l.at;
}

abbrev pub decreases-lanes : goal.decreases-lanes
decreases-lanes g l = length l.first - l.at
