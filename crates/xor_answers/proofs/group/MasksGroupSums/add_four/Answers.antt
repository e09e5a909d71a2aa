use Rattle.std.proofs.Common.{◌*◌, ◌∙◌, slice_index, sym, ap, arith}
use Rattle.std.specs.Int.{div_ceil}
use Rattle.gf256.specs.Field.{◌⊕◌}
use Rattle.chor_xor.specs.Bitmap.{size_of}
use Rattle.xor_answers.proofs.MaskSums.{four-asked}
use Rattle.xor_answers.proofs.group.MasksGroupSums.add_four.Goals as goal

pub returns : goal.returns
returns g c = λ p l.
    let group = c.args.group in
    let four = c.four_apart-four.ensures in
    c.add_four_rows.ensures p l
    ∙ ap (◌⊕◌ (slice_index c.args.blocks.now p))
    (four-asked g.row.N group.queries.now c.set_masks.new.masks _ group.matrix.now group.count c.args.j c.args.apart c.div_ceil-size.result p c.requires.lanes c.requires.some
    c.requires.wide four.width_a (c.div_ceil-size.ensures ∙ ap size_of c.rows.ensures.is) c.rows.ensures.matrix c.requires.within
    four.a four.b four.c four.d c.set_masks.ensures)

pub div_ceil-size-requires : goal.div_ceil-size-requires
div_ceil-size-requires g c = omega arith

pub overflow_cast-size : goal.overflow_cast-size
overflow_cast-size g c = omega arith

pub set_masks-requires-clause-room : goal.set_masks-requires-clause-room
set_masks-requires-clause-room g c = c.requires.room

pub set_masks-requires-clause-few : goal.set_masks-requires-clause-few
set_masks-requires-clause-few g c = c.requires.few

pub set_masks-requires-clause-within : goal.set_masks-requires-clause-within
set_masks-requires-clause-within g c = omega arith

pub set_masks-requires-clause-memory : goal.set_masks-requires-clause-memory
set_masks-requires-clause-memory g c = omega arith

pub set_masks-requires-clause-bitmaps : goal.set_masks-requires-clause-bitmaps
set_masks-requires-clause-bitmaps g c = c.requires.queries ∙ ap (λ s. c.args.group.count * s) (sym (c.div_ceil-size.ensures ∙ ap size_of c.rows.ensures.is))

pub add_four_rows-requires-clause-lanes : goal.add_four_rows-requires-clause-lanes
add_four_rows-requires-clause-lanes g c = c.requires.lanes

pub add_four_rows-requires-clause-wide : goal.add_four_rows-requires-clause-wide
add_four_rows-requires-clause-wide g c = omega arith

pub add_four_rows-requires-clause-memory : goal.add_four_rows-requires-clause-memory
add_four_rows-requires-clause-memory g c = omega arith

pub add_four_rows-requires-clause-b : goal.add_four_rows-requires-clause-b
add_four_rows-requires-clause-b g c = omega arith

pub add_four_rows-requires-clause-c : goal.add_four_rows-requires-clause-c
add_four_rows-requires-clause-c g c = omega arith

pub add_four_rows-requires-clause-d : goal.add_four_rows-requires-clause-d
add_four_rows-requires-clause-d g c = omega arith

pub add_four_rows-requires-clause-masks : goal.add_four_rows-requires-clause-masks
add_four_rows-requires-clause-masks g c = c.set_masks.auto.masks ∙ c.requires.room

pub add_four_rows-requires-clause-some : goal.add_four_rows-requires-clause-some
add_four_rows-requires-clause-some g c = c.requires.some

pub add_four_rows-requires-clause-few : goal.add_four_rows-requires-clause-few
add_four_rows-requires-clause-few g c = c.requires.few

pub add_four_rows-requires-clause-room : goal.add_four_rows-requires-clause-room
add_four_rows-requires-clause-room g c =
    c.requires.blocks ∙ ap (λ w. g.row.N * (div_ceil w g.row.N * c.args.group.count)) (sym c.four_apart-four.ensures.width_a)
