use Rattle.std.proofs.Common.{◌≤◌, ◌-◌, ◌*◌, ◌∙◌, ap, sym, arith}
use Rattle.chor_xor.specs.Bitmap.{size_of}
use Rattle.xor_answers.proofs.PatternSums.{set-size, set-more}
use Rattle.row_workers.proofs.PieceSums.{part_fits}
use Rattle.std.proofs.Math.Nat.{mul-le-mul_right}
use Rattle.xor_answers.proofs.bitmaps.sum_in_sets.Goals as goal

pub sum_of_set-requires-clause-bitmaps : goal.sum_of_set-requires-clause-bitmaps
sum_of_set-requires-clause-bitmaps c =
    let done = c.sets.done in
    let end = c.min-end.result in
    let size = c.div_ceil-size.ensures ∙ ap size_of c.rows.ensures.is in
    set-size c.args.bitmaps.now c.div_ceil-size.result done end c.args.count (omega (arith, c.min-end.ensures, c.sets-test.true))
    (omega (arith, c.min-end.ensures)) (c.requires.bitmaps ∙ ap (λ s. c.args.count * s) (sym size)) ∙ ap (λ s. (end - done) * s) size

pub sum_of_set-requires-clause-room : goal.sum_of_set-requires-clause-room
sum_of_set-requires-clause-room c =
    let done = c.sets.done in
    let end = c.min-end.result in
    let width = c.width-width.ensures.is in
    set-size c.sets.sums c.width-width.result done end c.args.count (omega (arith, c.min-end.ensures, c.sets-test.true))
    (omega (arith, c.min-end.ensures)) (c.sets.auto.sums ∙ c.requires.room ∙ ap (λ w. c.args.count * w) (sym width)) ∙ ap (λ w. (end - done) * w) width

pub sets-preserved : goal.sets-preserved
sets-preserved c =
    let done = c.sets.done in
    let end = c.min-end.result in
    let most : end ≤ c.args.count = omega (arith, c.min-end.ensures) in
    let size = c.div_ceil-size.ensures ∙ ap size_of c.rows.ensures.is in
    record {
      within = most;
      summed =
          set-more c.args.bitmaps.now c.sets.sums c.sum_of_set.new.sums c.args.matrix.now.rows c.args.matrix.now.width done end c.args.from c.args.to
          c.args.count c.div_ceil-size.result c.width-width.result size c.width-width.ensures.is (omega arith) most (c.sets.auto.sums ∙ c.requires.room)
          c.sum_of_set.auto.sums (omega arith) c.sum_of_set.ensures c.sets.invariant.summed;
    }

pub div_ceil-size-requires : goal.div_ceil-size-requires
div_ceil-size-requires c = omega arith

pub overflow_cast-size : goal.overflow_cast-size
overflow_cast-size c = omega arith

pub overflow_cast-width : goal.overflow_cast-width
overflow_cast-width c = omega arith

pub overflow_add-done : goal.overflow_add-done
overflow_add-done c = omega arith

pub overflow_sub-end : goal.overflow_sub-end
overflow_sub-end c = omega arith

pub sum_of_set-requires-clause-few : goal.sum_of_set-requires-clause-few
sum_of_set-requires-clause-few c = omega arith

pub sum_of_set-requires-clause-order : goal.sum_of_set-requires-clause-order
sum_of_set-requires-clause-order c = c.requires.order

pub sum_of_set-requires-clause-within : goal.sum_of_set-requires-clause-within
sum_of_set-requires-clause-within c = c.requires.within

pub sets-smaller : goal.sets-smaller
sets-smaller c = omega arith

pub overflow_mul-set : goal.overflow_mul-set
overflow_mul-set c =
    omega (arith, part_fits c.sets.done c.args.count c.div_ceil-size.result _ _ (omega arith) (c.div_ceil-size.ensures ∙ ap size_of c.rows.ensures.is) c.requires.bitmaps)

pub overflow_mul-set-in-sets : goal.overflow_mul-set-in-sets
overflow_mul-set-in-sets c =
    omega (arith, part_fits c.min-end.result c.args.count c.div_ceil-size.result _ _ (omega arith) (c.div_ceil-size.ensures ∙ ap size_of c.rows.ensures.is) c.requires.bitmaps)

pub slice_bounds-set-end : goal.slice_bounds-set-end
slice_bounds-set-end c =
    omega (arith, part_fits c.min-end.result c.args.count c.div_ceil-size.result _ _ (omega arith) (c.div_ceil-size.ensures ∙ ap size_of c.rows.ensures.is) c.requires.bitmaps)

pub overflow_mul-own : goal.overflow_mul-own
overflow_mul-own c =
    omega (arith, part_fits c.sets.done c.args.count c.width-width.result _ _ (omega arith) c.width-width.ensures.is c.requires.room)

pub overflow_mul-own-in-sets : goal.overflow_mul-own-in-sets
overflow_mul-own-in-sets c =
    omega (arith, part_fits c.min-end.result c.args.count c.width-width.result _ _ (omega arith) c.width-width.ensures.is c.requires.room)

pub slice_bounds-own-end : goal.slice_bounds-own-end
slice_bounds-own-end c =
    omega (arith, part_fits c.min-end.result c.args.count c.width-width.result _ _ (omega arith) c.width-width.ensures.is (c.sets.auto.sums ∙ c.requires.room))

pub slice_bounds-set-start : goal.slice_bounds-set-start
slice_bounds-set-start c =
    let later : c.sets.done ≤ c.min-end.result = omega arith in
    omega (arith, mul-le-mul_right c.div_ceil-size.result later)

pub slice_bounds-own-start : goal.slice_bounds-own-start
slice_bounds-own-start c =
    let later : c.sets.done ≤ c.min-end.result = omega arith in
    omega (arith, mul-le-mul_right c.width-width.result later)

pub slice_bounds-set-count : goal.slice_bounds-set-count
slice_bounds-set-count c =
    let later : c.sets.done ≤ c.min-end.result = omega arith in
    omega (arith, mul-le-mul_right c.div_ceil-size.result later)

pub slice_bounds-own-count : goal.slice_bounds-own-count
slice_bounds-own-count c =
    let later : c.sets.done ≤ c.min-end.result = omega arith in
    omega (arith, mul-le-mul_right c.width-width.result later)
