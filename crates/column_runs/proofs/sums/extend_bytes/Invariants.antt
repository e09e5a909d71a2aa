use Rattle.column_runs.specs.Tile.{AreGiven}
use Rattle.column_runs.proofs.sums.extend_bytes.Given as goal

-- the columns so far
abbrev pub invariant-loop-c : goal.invariant-loop-c
invariant-loop-c l = AreGiven l.first l.differences l.factors l.sums l.c
