use Rattle.gf256.proofs.FlatRows.{row_within}
use Rattle.std.proofs.Math.Nat.{mul-le-mul_right}
use Rattle.std.proofs.Common.{◌≡◌, ℕ, ◌-◌, ◌<◌, slice_index, subst, ◌∙◌, ◌≤◌, ◌+◌, arith, mul-le-mul}
use Rattle.row_workers.proofs.PieceSums.{pieces-more, length-piece}
use Rattle.xor_answers.specs.Patterns.{spread_at}
use Rattle.xor_answers.proofs.PatternSums.{own-size}
use Rattle.xor_answers.proofs.sets.spread.Goals as goal

pub loop-v-preserved : goal.loop-v-preserved
loop-v-preserved c =
    let v = c.loop-v.v in
    let width = c.args.width in
    let place = c.args.count - 1 - v in
    let room = c.loop-v.auto.sums ∙ c.requires.room in
    pieces-more c.loop-v.sums c.spread_to.new.sums (λ u k. spread_at c.args.patterns.now width (c.args.count - 1 - u) k) width c.args.count v
    c.loop-v-test.true room c.spread_to.auto.sums
    (subst (λ n. (k : ℕ) → k < n → slice_index c.spread_to.new.sums k ≡ spread_at c.args.patterns.now n place k)
    (own-size c.loop-v.sums width c.args.count v c.loop-v-test.true room) c.spread_to.ensures)
    c.loop-v.invariant

pub loop-v-init : goal.loop-v-init
loop-v-init c = λ u k l m. absurd (omega arith)

pub overflow_mul-own : goal.overflow_mul-own
overflow_mul-own c =
    let most : c.loop-v.v ≤ 8 = omega arith in
    omega (arith, mul-le-mul most c.requires.memory)

pub overflow_add-own : goal.overflow_add-own
overflow_add-own c = omega arith

pub overflow_mul-own-in-loop-v : goal.overflow_mul-own-in-loop-v
overflow_mul-own-in-loop-v c =
    let most : c.loop-v.v + 1 ≤ 8 = omega arith in
    omega (arith, mul-le-mul most c.requires.memory)

pub slice_bounds-own-count : goal.slice_bounds-own-count
slice_bounds-own-count c =
    let next : c.loop-v.v ≤ c.loop-v.v + 1 = omega arith in
    mul-le-mul_right c.args.width next

pub slice_bounds-own-start : goal.slice_bounds-own-start
slice_bounds-own-start c = omega (arith, row_within c.loop-v.v c.args.count c.args.width (omega arith), c.requires.room)

pub slice_bounds-own-end : goal.slice_bounds-own-end
slice_bounds-own-end c =
    let next : c.loop-v.v + 1 ≤ c.args.count = omega arith in
    omega (arith, mul-le-mul_right c.args.width next, c.requires.room)

pub overflow_sub-count : goal.overflow_sub-count
overflow_sub-count c = omega arith

pub overflow_sub-count-in-loop-v : goal.overflow_sub-count-in-loop-v
overflow_sub-count-in-loop-v c = omega arith

pub spread_to-requires-clause-place : goal.spread_to-requires-clause-place
spread_to-requires-clause-place c = omega arith

pub spread_to-requires-clause-memory : goal.spread_to-requires-clause-memory
spread_to-requires-clause-memory c = omega (arith, length-piece c.loop-v.sums c.args.width c.loop-v.v c.args.count (omega arith) (c.loop-v.auto.sums ∙ c.requires.room), c.requires.memory)

pub spread_to-requires-clause-patterns : goal.spread_to-requires-clause-patterns
spread_to-requires-clause-patterns c = omega (arith, length-piece c.loop-v.sums c.args.width c.loop-v.v c.args.count (omega arith) (c.loop-v.auto.sums ∙ c.requires.room), c.requires.patterns)

pub loop-v-smaller : goal.loop-v-smaller
loop-v-smaller c = omega arith

pub returns : goal.returns
returns c = λ v k l m. c.loop-v.invariant v k (omega arith) m
