use Rattle.std.proofs.Common.{arith}
use Rattle.xor_answers.proofs.bitmaps.sum_bitmaps.Goals as goal

pub overflow_sub-to : goal.overflow_sub-to
overflow_sub-to c = omega arith

pub sum_in_sets-requires-clause-few : goal.sum_in_sets-requires-clause-few
sum_in_sets-requires-clause-few c = c.requires.few

pub sum_in_sets-requires-clause-order : goal.sum_in_sets-requires-clause-order
sum_in_sets-requires-clause-order c = c.requires.order

pub sum_in_sets-requires-clause-within : goal.sum_in_sets-requires-clause-within
sum_in_sets-requires-clause-within c = c.requires.within

pub sum_in_sets-requires-clause-bitmaps : goal.sum_in_sets-requires-clause-bitmaps
sum_in_sets-requires-clause-bitmaps c = c.requires.bitmaps

pub sum_in_sets-requires-clause-room : goal.sum_in_sets-requires-clause-room
sum_in_sets-requires-clause-room c = c.requires.room
