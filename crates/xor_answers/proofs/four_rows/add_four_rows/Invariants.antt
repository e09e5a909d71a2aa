use Rattle.std.proofs.Common.{◌*◌}
use Rattle.gf256.specs.Rows.{IsAdded}
use Rattle.xor_answers.specs.Masked.{masked_at}
use Rattle.xor_answers.proofs.four_rows.add_four_rows.Given as goal

abbrev pub invariant-loop-i : goal.invariant-loop-i
invariant-loop-i g l = IsAdded l.sums l.initial.sums (masked_at g.row.N l.rows l.masks l.count) 0 (g.row.N * (l.i * l.count))
