use Rattle.gf256.specs.Rows.{IsAdded}
use Rattle.chor_xor.proofs.FourSums.{four_at}
use Rattle.chor_xor.proofs.answer.add_four_rows.Given as goal

abbrev pub invariant-loop-i : goal.invariant-loop-i
invariant-loop-i l = IsAdded l.acc l.initial.acc (four_at l.a l.b l.c l.d) 0 l.i
