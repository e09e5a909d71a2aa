use Rattle.std.proofs.Common.{slice_index}
use Rattle.gf256.specs.Rows.{IsAdded}
use Rattle.gf256.proofs.rows.add_bytes.Given as goal

abbrev pub invariant-loop-i : goal.invariant-loop-i
invariant-loop-i l = IsAdded l.acc l.initial.acc (slice_index l.row) 0 l.i
