use Rattle.std.proofs.Common.{◌-◌, ◌≤◌, length}
use Rattle.column_runs.specs.Halves.{difference, AreParts}
use Rattle.column_runs.proofs.halves.part_in_lanes.Given as goal

-- the bytes so far
abbrev pub invariant-lanes : goal.invariant-lanes
invariant-lanes g l = record {
  within : l.at ≤ length l.first;
  parts : AreParts l.low l.high (difference l.row l.first) l.at;
}

abbrev pub decreases-lanes : goal.decreases-lanes
decreases-lanes g l = length l.first - l.at
