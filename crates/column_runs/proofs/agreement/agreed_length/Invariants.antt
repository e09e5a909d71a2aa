use Rattle.std.proofs.Common.{◌-◌, ◌≤◌, length}
use Rattle.column_runs.specs.Tile.{AreGiven}
use Rattle.column_runs.proofs.agreement.agreed_length.Given as goal

-- the columns so far agree
abbrev pub invariant-lanes : goal.invariant-lanes
invariant-lanes l = record {
  within : l.at ≤ length l.first;
  same : AreGiven l.first l.differences l.factors l.row l.at;
}

abbrev pub decreases-lanes : goal.decreases-lanes
decreases-lanes l = length l.first - l.at
