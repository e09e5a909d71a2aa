use Rattle.gf256.specs.Rows.{multiple, IsAdded}
use Rattle.gf256.proofs.rows.add_scaled_bytes.Given as goal

abbrev pub invariant-loop-i : goal.invariant-loop-i
invariant-loop-i l = IsAdded l.acc l.initial.acc (multiple l.row l.factor) 0 l.i
