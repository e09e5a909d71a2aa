use Rattle.std.proofs.Common.{◌*◌, ◌∙◌, slice_index, sym, ap, arith}
use Rattle.std.specs.Int.{div_ceil}
use Rattle.gf256.specs.Field.{◌⊕◌}
use Rattle.server_product.proofs.BlockSums.{four-entries}
use Rattle.server_product.proofs.group.MultiplesGroupSums.add_four.Goals as goal

pub returns : goal.returns
returns g c = λ p l.
    let group = c.args.group in
    let four = c.four_apart-four.ensures in
    c.add_four_rows.ensures p l
    ∙ ap (◌⊕◌ (slice_index c.args.blocks.now p))
    (four-entries g.row.N group.queries.now c.factors_of-factors.result _ group.matrix.now group.count c.args.j c.args.apart c.rows-rows.result p c.requires.lanes.0 c.requires.some
    c.requires.wide four.width_a c.rows-rows.ensures.is four.a four.b four.c four.d c.factors_of-factors.ensures)

pub overflow_cast-rows : goal.overflow_cast-rows
overflow_cast-rows g c = omega arith

pub factors_of-factors-requires-clause-few : goal.factors_of-factors-requires-clause-few
factors_of-factors-requires-clause-few g c = c.requires.few

pub factors_of-factors-requires-clause-within : goal.factors_of-factors-requires-clause-within
factors_of-factors-requires-clause-within g c = omega arith

pub factors_of-factors-requires-clause-memory : goal.factors_of-factors-requires-clause-memory
factors_of-factors-requires-clause-memory g c = omega arith

pub factors_of-factors-requires-clause-queries : goal.factors_of-factors-requires-clause-queries
factors_of-factors-requires-clause-queries g c = c.requires.queries ∙ ap (λ r. c.args.group.count * r) (sym c.rows-rows.ensures.is)

pub add_four_rows-requires-clause-wide : goal.add_four_rows-requires-clause-wide
add_four_rows-requires-clause-wide g c = omega arith

pub add_four_rows-requires-clause-b : goal.add_four_rows-requires-clause-b
add_four_rows-requires-clause-b g c = omega arith

pub add_four_rows-requires-clause-c : goal.add_four_rows-requires-clause-c
add_four_rows-requires-clause-c g c = omega arith

pub add_four_rows-requires-clause-d : goal.add_four_rows-requires-clause-d
add_four_rows-requires-clause-d g c = omega arith

pub add_four_rows-requires-clause-some : goal.add_four_rows-requires-clause-some
add_four_rows-requires-clause-some g c = c.requires.some

pub add_four_rows-requires-clause-few : goal.add_four_rows-requires-clause-few
add_four_rows-requires-clause-few g c = c.requires.few

pub add_four_rows-requires-clause-memory : goal.add_four_rows-requires-clause-memory
add_four_rows-requires-clause-memory g c = omega arith

pub add_four_rows-requires-clause-room : goal.add_four_rows-requires-clause-room
add_four_rows-requires-clause-room g c =
    c.requires.blocks ∙ ap (λ w. g.row.N * (div_ceil w g.row.N * c.args.group.count)) (sym c.four_apart-four.ensures.width_a)
