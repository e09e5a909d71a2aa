use Rattle.std.proofs.Common.{◌≤◌, ◌+◌, slice_index, ◌∙◌, arith, mul-le-mul}
use Rattle.std.proofs.Math.Nat.{mul-le-mul_right}
use Rattle.row_workers.specs.Blocks.{place_of}
use Rattle.row_workers.proofs.PieceSums.{pieces-more, length-piece}
use Rattle.gf256.proofs.FlatRows.{row_within}
use Rattle.row_workers.proofs.blocks.lay_out.Goals as goal

pub loop-v-preserved : goal.loop-v-preserved
loop-v-preserved g c =
    pieces-more c.loop-v.sums c.lay_out_one.new.sums (λ v k. slice_index c.args.blocks.now (place_of g.row.N c.args.width c.args.count v k)) c.args.width c.args.count c.loop-v.v
    (omega arith) (c.loop-v.auto.sums ∙ c.requires.room) c.lay_out_one.auto.sums c.lay_out_one.ensures c.loop-v.invariant

pub loop-v-init : goal.loop-v-init
loop-v-init g c = λ v k l m. absurd (omega arith)

pub overflow_mul-v : goal.overflow_mul-v
overflow_mul-v g c =
    let most : c.loop-v.v ≤ 16 = omega arith in
    omega (arith, mul-le-mul most c.requires.memory)

pub overflow_add-v : goal.overflow_add-v
overflow_add-v g c = omega arith

pub overflow_mul-v-in-loop-v : goal.overflow_mul-v-in-loop-v
overflow_mul-v-in-loop-v g c =
    let most : c.loop-v.v + 1 ≤ 16 = omega arith in
    omega (arith, mul-le-mul most c.requires.memory)

pub slice_bounds-lay_out_one-count : goal.slice_bounds-lay_out_one-count
slice_bounds-lay_out_one-count g c =
    let next : c.loop-v.v ≤ c.loop-v.v + 1 = omega arith in
    mul-le-mul_right c.args.width next

pub slice_bounds-lay_out_one-start : goal.slice_bounds-lay_out_one-start
slice_bounds-lay_out_one-start g c = omega (arith, row_within c.loop-v.v c.args.count c.args.width (omega arith), c.requires.room)

pub slice_bounds-lay_out_one-end : goal.slice_bounds-lay_out_one-end
slice_bounds-lay_out_one-end g c =
    let next : c.loop-v.v + 1 ≤ c.args.count = omega arith in
    omega (arith, mul-le-mul_right c.args.width next, c.requires.room)

pub lay_out_one-requires-clause-some : goal.lay_out_one-requires-clause-some
lay_out_one-requires-clause-some g c = c.requires.some

pub lay_out_one-requires-clause-few : goal.lay_out_one-requires-clause-few
lay_out_one-requires-clause-few g c = c.requires.few

pub lay_out_one-requires-clause-query : goal.lay_out_one-requires-clause-query
lay_out_one-requires-clause-query g c = omega arith

pub lay_out_one-requires-clause-wide : goal.lay_out_one-requires-clause-wide
lay_out_one-requires-clause-wide g c = c.requires.wide

pub lay_out_one-requires-clause-memory : goal.lay_out_one-requires-clause-memory
lay_out_one-requires-clause-memory g c = c.requires.memory

pub lay_out_one-requires-clause-blocks : goal.lay_out_one-requires-clause-blocks
lay_out_one-requires-clause-blocks g c = c.requires.blocks

pub lay_out_one-requires-clause-room : goal.lay_out_one-requires-clause-room
lay_out_one-requires-clause-room g c = length-piece c.loop-v.sums c.args.width c.loop-v.v c.args.count (omega arith) (c.loop-v.auto.sums ∙ c.requires.room)

pub loop-v-smaller : goal.loop-v-smaller
loop-v-smaller g c = omega arith

pub returns : goal.returns
returns g c = λ v k l m. c.loop-v.invariant v k (omega arith) m
