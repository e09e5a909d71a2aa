use Rattle.std.proofs.Common.{◌+◌, ◌*◌, slice_index, slice_range, ap, ◌∙◌, arith}
use Rattle.gf256.specs.Field.{◌⊕◌}
use Rattle.chor_xor.specs.Bitmap.{size_of}
use Rattle.chor_xor.specs.Chosen.{given}
use Rattle.xor_answers.specs.Asked.{asked}
use Rattle.row_workers.proofs.RunSums.{run-same}
use Rattle.row_workers.proofs.PieceSums.{part_fits}
use Rattle.xor_answers.proofs.MaskSums.{given-is}
use Rattle.xor_answers.proofs.group.MasksGroupSums.add_few.Goals as goal

pub returns : goal.returns
returns g c = λ k l.
    let matrix = c.args.group.matrix.now in
    let bitmaps = c.args.group.queries.now in
    let v = c.args.v in
    let s = c.div_ceil-size.result in
    c.add_chosen_rows.ensures k
    ∙ ap (◌⊕◌ (slice_index c.args.sums.now k))
    (run-same (given (slice_range bitmaps (v * s) ((v + 1) * s)) matrix.rows k) (asked bitmaps matrix.rows matrix.width (v * matrix.width + k)) c.args.from c.args.to
    (λ j a b. given-is bitmaps matrix.rows matrix.width v s k j (c.div_ceil-size.ensures ∙ ap size_of c.rows.ensures.is) l))

pub div_ceil-size-requires : goal.div_ceil-size-requires
div_ceil-size-requires g c = omega arith

pub overflow_cast-size : goal.overflow_cast-size
overflow_cast-size g c = omega arith

pub overflow_add-bitmap : goal.overflow_add-bitmap
overflow_add-bitmap g c = omega arith

pub slice_bounds-bitmap-count : goal.slice_bounds-bitmap-count
slice_bounds-bitmap-count g c = omega arith

pub slice_bounds-bitmap-start : goal.slice_bounds-bitmap-start
slice_bounds-bitmap-start g c = omega arith

pub add_chosen_rows-requires-clause-order : goal.add_chosen_rows-requires-clause-order
add_chosen_rows-requires-clause-order g c = c.requires.order

pub add_chosen_rows-requires-clause-within : goal.add_chosen_rows-requires-clause-within
add_chosen_rows-requires-clause-within g c = c.requires.within

pub add_chosen_rows-requires-clause-bitmap : goal.add_chosen_rows-requires-clause-bitmap
add_chosen_rows-requires-clause-bitmap g c = omega arith

pub add_chosen_rows-requires-clause-room : goal.add_chosen_rows-requires-clause-room
add_chosen_rows-requires-clause-room g c = c.requires.room

pub overflow_mul-bitmap : goal.overflow_mul-bitmap
overflow_mul-bitmap g c =
    omega (arith, part_fits c.args.v c.args.group.count c.div_ceil-size.result _ _ (omega arith) (c.div_ceil-size.ensures ∙ ap size_of c.rows.ensures.is) c.requires.queries)

pub overflow_mul-bitmap-2 : goal.overflow_mul-bitmap-2
overflow_mul-bitmap-2 g c =
    omega (arith, part_fits (c.args.v + 1) c.args.group.count c.div_ceil-size.result _ _ (omega arith) (c.div_ceil-size.ensures ∙ ap size_of c.rows.ensures.is) c.requires.queries)

pub slice_bounds-bitmap-end : goal.slice_bounds-bitmap-end
slice_bounds-bitmap-end g c =
    omega (arith, part_fits (c.args.v + 1) c.args.group.count c.div_ceil-size.result _ _ (omega arith) (c.div_ceil-size.ensures ∙ ap size_of c.rows.ensures.is) c.requires.queries)
