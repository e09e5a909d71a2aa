use Rattle.std.proofs.Common.{arith, ◌∙◌, sym}
use Rattle.row_workers.proofs.RunSums.{zeros-long}
use Rattle.xor_answers.proofs.gather.sum_in_eights.Goals as goal

pub overflow_cast-width : goal.overflow_cast-width
overflow_cast-width c = omega arith

pub slice_bounds-stack-end : goal.slice_bounds-stack-end
slice_bounds-stack-end c = omega arith

pub add_in_eights-requires-clause-few : goal.add_in_eights-requires-clause-few
add_in_eights-requires-clause-few c = c.requires.few

pub add_in_eights-requires-clause-order : goal.add_in_eights-requires-clause-order
add_in_eights-requires-clause-order c = c.requires.order

pub add_in_eights-requires-clause-within : goal.add_in_eights-requires-clause-within
add_in_eights-requires-clause-within c = c.requires.within

pub add_in_eights-requires-clause-bitmaps : goal.add_in_eights-requires-clause-bitmaps
add_in_eights-requires-clause-bitmaps c = c.requires.bitmaps

pub add_in_eights-requires-clause-room : goal.add_in_eights-requires-clause-room
add_in_eights-requires-clause-room c = c.clear.auto.row ∙ c.requires.room

pub add_in_eights-requires-clause-zeros : goal.add_in_eights-requires-clause-zeros
add_in_eights-requires-clause-zeros c = omega arith

pub slice_bounds-add_in_eights-end : goal.slice_bounds-add_in_eights-end
slice_bounds-add_in_eights-end c = sym (zeros-long c.width-width.result 65536 (omega arith))

pub add_in_eights-requires-clause-eight : goal.add_in_eights-requires-clause-eight
add_in_eights-requires-clause-eight c = zeros-long c.width-width.result 65536 (omega arith) ∙ c.width-width.ensures.is
