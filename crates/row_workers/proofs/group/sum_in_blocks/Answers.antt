use Rattle.std.proofs.Common.{◌≡◌, ℕ, ◌+◌, ◌*◌, ◌<◌, ◌∙◌, slice_index, subst, arith}
use Rattle.row_workers.specs.Group.{group_gives}
use Rattle.row_workers.specs.Blocks.{place_of}
use Rattle.row_workers.proofs.BlockSums.{group-sums}
use Rattle.row_workers.proofs.group.sum_in_blocks.Goals as goal

pub returns : goal.returns
returns g c =
    let group = c.args.group in
    let width = group.matrix.now.width in
    let n = group.count in
    group-sums g.row.N (group_gives g.S.GroupSums.gives group)
    c.args.blocks.now c.add_quarters.new.sums c.lay_out.new.sums c.add_rest.new.sums width n c.args.from
    (c.args.from + 4 * c.share_of-quarter.result) c.args.to c.requires.lanes.0 c.requires.wide (omega arith) (omega arith) c.requires.zeros
    (λ p l. c.add_quarters.ensures p (omega (arith, c.requires.blocks, l)))
    (subst (λ w. (v k : ℕ) → v < n → k < w → slice_index c.lay_out.new.sums (v * w + k) ≡ slice_index c.add_quarters.new.sums (place_of g.row.N w n v k)) c.width-2.ensures.is c.lay_out.ensures)
    c.add_rest.ensures

pub overflow_sub-to : goal.overflow_sub-to
overflow_sub-to g c = omega arith

pub share_of-quarter-requires : goal.share_of-quarter-requires
share_of-quarter-requires g c = omega arith

pub add_quarters-requires-clause-lanes : goal.add_quarters-requires-clause-lanes
add_quarters-requires-clause-lanes g c = c.requires.lanes

pub add_quarters-requires-clause-some : goal.add_quarters-requires-clause-some
add_quarters-requires-clause-some g c = c.requires.some

pub add_quarters-requires-clause-few : goal.add_quarters-requires-clause-few
add_quarters-requires-clause-few g c = c.requires.few

pub add_quarters-requires-clause-wide : goal.add_quarters-requires-clause-wide
add_quarters-requires-clause-wide g c = c.requires.wide

pub add_quarters-requires-clause-within : goal.add_quarters-requires-clause-within
add_quarters-requires-clause-within g c = omega arith

pub add_quarters-requires-clause-queries : goal.add_quarters-requires-clause-queries
add_quarters-requires-clause-queries g c = c.requires.queries

pub add_quarters-requires-clause-room : goal.add_quarters-requires-clause-room
add_quarters-requires-clause-room g c = omega arith

pub overflow_cast-width : goal.overflow_cast-width
overflow_cast-width g c = omega arith

pub lay_out-requires-clause-few : goal.lay_out-requires-clause-few
lay_out-requires-clause-few g c = c.requires.few

pub lay_out-requires-clause-wide : goal.lay_out-requires-clause-wide
lay_out-requires-clause-wide g c = omega arith

pub lay_out-requires-clause-memory : goal.lay_out-requires-clause-memory
lay_out-requires-clause-memory g c = omega arith

pub overflow_mul-quarter : goal.overflow_mul-quarter
overflow_mul-quarter g c = omega arith

pub overflow_add-from : goal.overflow_add-from
overflow_add-from g c = omega arith

pub add_rest-requires-clause-few : goal.add_rest-requires-clause-few
add_rest-requires-clause-few g c = c.requires.few

pub add_rest-requires-clause-order : goal.add_rest-requires-clause-order
add_rest-requires-clause-order g c = omega arith

pub add_rest-requires-clause-within : goal.add_rest-requires-clause-within
add_rest-requires-clause-within g c = c.requires.within

pub add_rest-requires-clause-queries : goal.add_rest-requires-clause-queries
add_rest-requires-clause-queries g c = c.requires.queries

pub add_rest-requires-clause-room : goal.add_rest-requires-clause-room
add_rest-requires-clause-room g c = c.lay_out.auto.sums ∙ c.requires.room
