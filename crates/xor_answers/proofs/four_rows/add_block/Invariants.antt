use Rattle.std.proofs.Common.{◌+◌, ◌*◌}
use Rattle.gf256.specs.Rows.{IsAdded}
use Rattle.xor_answers.specs.Masked.{masked_at}
use Rattle.xor_answers.proofs.four_rows.add_block.Given as goal

abbrev pub invariant-loop-v : goal.invariant-loop-v
invariant-loop-v g l =
    IsAdded l.sums l.initial.sums (masked_at g.row.N l.rows l.masks l.count) (g.row.N * (l.i * l.count)) (g.row.N * (l.i * l.count + l.v))
