use Rattle.std.proofs.Common.{◌≡◌, ℕ, ◌+◌, ◌*◌, ◌<◌, slice_index, length, subst, sym, ap, ◌∙◌, arith}
use Rattle.gf256.specs.Sums.{run_sum}
use Rattle.row_workers.specs.Pieces.{piece}
use Rattle.row_workers.proofs.PieceSums.{pieces-more, part_fits}
use Rattle.chor_xor.specs.Bitmap.{size_of}
use Rattle.chor_xor.specs.Chosen.{given}
use Rattle.xor_answers.proofs.AnswerSums.{all-asked}
use Rattle.xor_answers.proofs.bitmaps.sum_each.Goals as goal

pub loop-v-preserved : goal.loop-v-preserved
loop-v-preserved c =
    let matrix = c.args.matrix.now in
    pieces-more c.loop-v.sums c.sum_one.new.sums (λ v k. run_sum (given (piece c.div_ceil-size.result c.args.bitmaps.now v) matrix.rows k) c.args.from c.args.to)
    c.width-width.result c.args.count c.loop-v.v c.loop-v-test.true
    (c.loop-v.auto.sums ∙ c.requires.room ∙ ap (λ w. c.args.count * w) (sym c.width-width.ensures.is)) c.sum_one.auto.sums (λ k l. c.sum_one.ensures k) c.loop-v.invariant

pub returns : goal.returns
returns c =
    let matrix = c.args.matrix.now in
    let end : c.loop-v.v ≡ c.args.count = omega arith in
    let size = c.div_ceil-size.ensures ∙ ap size_of c.rows.ensures.is in
    all-asked c.args.bitmaps.now c.loop-v.sums matrix.rows matrix.width c.args.count c.args.from c.args.to
    (λ v k l m.
    subst (λ n. (v k : ℕ) → v < n → k < matrix.width → slice_index c.loop-v.sums (v * matrix.width + k)
    ≡ run_sum (given (piece (size_of (length matrix.rows)) c.args.bitmaps.now v) matrix.rows k) c.args.from c.args.to) end
    (subst (λ s. (v k : ℕ) → v < c.loop-v.v → k < matrix.width → slice_index c.loop-v.sums (v * matrix.width + k)
    ≡ run_sum (given (piece s c.args.bitmaps.now v) matrix.rows k) c.args.from c.args.to) size
    (subst (λ w. (v k : ℕ) → v < c.loop-v.v → k < w → slice_index c.loop-v.sums (v * w + k)
    ≡ run_sum (given (piece c.div_ceil-size.result c.args.bitmaps.now v) matrix.rows k) c.args.from c.args.to) c.width-width.ensures.is c.loop-v.invariant)) v k l m)

pub div_ceil-size-requires : goal.div_ceil-size-requires
div_ceil-size-requires c = omega arith

pub overflow_cast-size : goal.overflow_cast-size
overflow_cast-size c = omega arith

pub overflow_cast-width : goal.overflow_cast-width
overflow_cast-width c = omega arith

pub overflow_add-bitmap : goal.overflow_add-bitmap
overflow_add-bitmap c = omega arith

pub slice_bounds-bitmap-count : goal.slice_bounds-bitmap-count
slice_bounds-bitmap-count c = omega arith

pub slice_bounds-bitmap-start : goal.slice_bounds-bitmap-start
slice_bounds-bitmap-start c = omega arith

pub overflow_add-v : goal.overflow_add-v
overflow_add-v c = omega arith

pub slice_bounds-sum_one-count : goal.slice_bounds-sum_one-count
slice_bounds-sum_one-count c = omega arith

pub slice_bounds-sum_one-start : goal.slice_bounds-sum_one-start
slice_bounds-sum_one-start c = omega arith

pub sum_one-requires-clause-order : goal.sum_one-requires-clause-order
sum_one-requires-clause-order c = c.requires.order

pub sum_one-requires-clause-within : goal.sum_one-requires-clause-within
sum_one-requires-clause-within c = c.requires.within

pub sum_one-requires-clause-bitmap : goal.sum_one-requires-clause-bitmap
sum_one-requires-clause-bitmap c = omega arith

pub sum_one-requires-clause-room : goal.sum_one-requires-clause-room
sum_one-requires-clause-room c = omega arith

pub overflow_mul-bitmap : goal.overflow_mul-bitmap
overflow_mul-bitmap c =
    omega (arith, part_fits c.loop-v.v c.args.count c.div_ceil-size.result _ _ (omega arith) (c.div_ceil-size.ensures ∙ ap size_of c.rows.ensures.is) c.requires.bitmaps)

pub overflow_mul-bitmap-in-loop-v : goal.overflow_mul-bitmap-in-loop-v
overflow_mul-bitmap-in-loop-v c =
    omega (arith, part_fits (c.loop-v.v + 1) c.args.count c.div_ceil-size.result _ _ (omega arith) (c.div_ceil-size.ensures ∙ ap size_of c.rows.ensures.is) c.requires.bitmaps)

pub slice_bounds-bitmap-end : goal.slice_bounds-bitmap-end
slice_bounds-bitmap-end c =
    omega (arith, part_fits (c.loop-v.v + 1) c.args.count c.div_ceil-size.result _ _ (omega arith) (c.div_ceil-size.ensures ∙ ap size_of c.rows.ensures.is) c.requires.bitmaps)

pub overflow_mul-v : goal.overflow_mul-v
overflow_mul-v c =
    omega (arith, part_fits c.loop-v.v c.args.count c.width-width.result _ _ (omega arith) c.width-width.ensures.is c.requires.room)

pub overflow_mul-v-in-loop-v : goal.overflow_mul-v-in-loop-v
overflow_mul-v-in-loop-v c =
    omega (arith, part_fits (c.loop-v.v + 1) c.args.count c.width-width.result _ _ (omega arith) c.width-width.ensures.is c.requires.room)

pub slice_bounds-sum_one-end : goal.slice_bounds-sum_one-end
slice_bounds-sum_one-end c =
    omega (arith, part_fits (c.loop-v.v + 1) c.args.count c.width-width.result _ _ (omega arith) c.width-width.ensures.is (c.loop-v.auto.sums ∙ c.requires.room))
