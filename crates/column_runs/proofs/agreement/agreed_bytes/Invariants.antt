use Rattle.column_runs.specs.Tile.{AreGiven}
use Rattle.column_runs.proofs.agreement.agreed_bytes.Given as goal

-- the columns so far agree
abbrev pub invariant-loop-c : goal.invariant-loop-c
invariant-loop-c l = AreGiven l.first l.differences l.factors l.row l.c
