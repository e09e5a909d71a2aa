use Rattle.std.proofs.Common.{arith}
use Rattle.xor_answers.proofs.bitmaps.sum_of_set.Goals as goal

pub sum_set-requires-clause-few : goal.sum_set-requires-clause-few
sum_set-requires-clause-few c = c.requires.few

pub sum_set-requires-clause-narrow : goal.sum_set-requires-clause-narrow
sum_set-requires-clause-narrow c = omega arith

pub sum_set-requires-clause-order : goal.sum_set-requires-clause-order
sum_set-requires-clause-order c = c.requires.order

pub sum_set-requires-clause-within : goal.sum_set-requires-clause-within
sum_set-requires-clause-within c = c.requires.within

pub sum_set-requires-clause-bitmaps : goal.sum_set-requires-clause-bitmaps
sum_set-requires-clause-bitmaps c = c.requires.bitmaps

pub sum_set-requires-clause-room : goal.sum_set-requires-clause-room
sum_set-requires-clause-room c = c.requires.room

pub sum_in_eights-requires-clause-few : goal.sum_in_eights-requires-clause-few
sum_in_eights-requires-clause-few c = c.requires.few

pub sum_in_eights-requires-clause-order : goal.sum_in_eights-requires-clause-order
sum_in_eights-requires-clause-order c = c.requires.order

pub sum_in_eights-requires-clause-within : goal.sum_in_eights-requires-clause-within
sum_in_eights-requires-clause-within c = c.requires.within

pub sum_in_eights-requires-clause-bitmaps : goal.sum_in_eights-requires-clause-bitmaps
sum_in_eights-requires-clause-bitmaps c = c.requires.bitmaps

pub sum_in_eights-requires-clause-room : goal.sum_in_eights-requires-clause-room
sum_in_eights-requires-clause-room c = c.requires.room
