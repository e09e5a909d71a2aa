use Rattle.server_product.specs.SixRows.{six_at}
use Rattle.gf256.specs.Rows.{IsAdded}
use Rattle.server_product.proofs.six_rows.add_six_short.Given as goal

abbrev pub invariant-loop-i : goal.invariant-loop-i
invariant-loop-i l = IsAdded l.acc l.initial.acc (six_at l.six) 0 l.i
