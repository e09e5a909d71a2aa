use Rattle.std.proofs.Common.{◌+◌, ◌*◌}
use Rattle.gf256.specs.Rows.{IsAdded}
use Rattle.server_product.specs.Blocks.{four_at}
use Rattle.server_product.proofs.four_rows.add_block.Given as goal

abbrev pub invariant-loop-v : goal.invariant-loop-v
invariant-loop-v g l =
    IsAdded l.sums l.initial.sums (four_at g.row.N l.rows l.factors l.count) (g.row.N * (l.i * l.count)) (g.row.N * (l.i * l.count + l.v))
