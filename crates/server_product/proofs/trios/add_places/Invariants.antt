use Rattle.gf256.specs.Rows.{IsAdded}
use Rattle.server_product.specs.Trios.{trio_at}
use Rattle.server_product.proofs.trios.add_places.Given as goal

abbrev pub invariant-loop-i : goal.invariant-loop-i
invariant-loop-i l = IsAdded l.acc l.fn.acc (trio_at l.trio) l.from l.i
