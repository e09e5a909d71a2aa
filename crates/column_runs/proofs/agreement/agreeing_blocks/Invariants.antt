use Rattle.std.proofs.Common.{◌-◌, ◌≤◌, length}
use Rattle.column_runs.specs.Tile.{AreGiven}
use Rattle.column_runs.proofs.agreement.agreeing_blocks.Given as goal

-- the columns so far agree
abbrev pub invariant-whole : goal.invariant-whole
invariant-whole l = record {
  within : l.at ≤ length l.first;
  same : AreGiven l.first l.differences l.factors l.row l.at;
}

abbrev pub decreases-whole : goal.decreases-whole
decreases-whole l = length l.first - l.at
