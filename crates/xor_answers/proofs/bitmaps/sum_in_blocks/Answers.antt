use Rattle.std.proofs.Common.{arith}
use Rattle.xor_answers.proofs.bitmaps.sum_in_blocks.Goals as goal

pub is_group-requires-clause-lanes : goal.is_group-requires-clause-lanes
is_group-requires-clause-lanes g c = c.requires.lanes

pub is_group-requires-clause-few : goal.is_group-requires-clause-few
is_group-requires-clause-few g c = omega arith

pub sum_group-requires-clause-lanes : goal.sum_group-requires-clause-lanes
sum_group-requires-clause-lanes g c = c.requires.lanes

pub sum_group-requires-clause-some : goal.sum_group-requires-clause-some
sum_group-requires-clause-some g c = omega arith

pub sum_group-requires-clause-few : goal.sum_group-requires-clause-few
sum_group-requires-clause-few g c = omega arith

pub sum_group-requires-clause-wide : goal.sum_group-requires-clause-wide
sum_group-requires-clause-wide g c = omega arith

pub sum_group-requires-clause-order : goal.sum_group-requires-clause-order
sum_group-requires-clause-order g c = c.requires.order

pub sum_group-requires-clause-within : goal.sum_group-requires-clause-within
sum_group-requires-clause-within g c = c.requires.within

pub sum_group-requires-clause-queries : goal.sum_group-requires-clause-queries
sum_group-requires-clause-queries g c = c.requires.bitmaps

pub sum_group-requires-clause-room : goal.sum_group-requires-clause-room
sum_group-requires-clause-room g c = c.requires.room

pub sum_each-requires-clause-few : goal.sum_each-requires-clause-few
sum_each-requires-clause-few g c = c.requires.few

pub sum_each-requires-clause-order : goal.sum_each-requires-clause-order
sum_each-requires-clause-order g c = c.requires.order

pub sum_each-requires-clause-within : goal.sum_each-requires-clause-within
sum_each-requires-clause-within g c = c.requires.within

pub sum_each-requires-clause-bitmaps : goal.sum_each-requires-clause-bitmaps
sum_each-requires-clause-bitmaps g c = c.requires.bitmaps

pub sum_each-requires-clause-room : goal.sum_each-requires-clause-room
sum_each-requires-clause-room g c = c.requires.room
