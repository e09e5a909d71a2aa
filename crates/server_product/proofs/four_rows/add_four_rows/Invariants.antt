use Rattle.std.proofs.Common.{◌*◌}
use Rattle.gf256.specs.Rows.{IsAdded}
use Rattle.server_product.specs.Blocks.{four_at}
use Rattle.server_product.proofs.four_rows.add_four_rows.Given as goal

abbrev pub invariant-loop-i : goal.invariant-loop-i
invariant-loop-i g l = IsAdded l.sums l.initial.sums (four_at g.row.N l.rows l.factors l.count) 0 (g.row.N * (l.i * l.count))
