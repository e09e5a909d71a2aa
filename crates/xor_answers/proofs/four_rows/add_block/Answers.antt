use Rattle.std.proofs.Common.{◌≡◌, ◌≤◌, ◌+◌, ◌*◌, length, subst, arith}
use Rattle.gf256.specs.Rows.{IsAdded}
use Rattle.gf256.proofs.Added.{added-none}
use Rattle.row_workers.proofs.BlockSums.{blocks-few, lanes-next, lanes-fit}
use Rattle.xor_answers.specs.Masked.{masked_at}
use Rattle.xor_answers.proofs.MaskSums.{block-put}
use Rattle.xor_answers.proofs.four_rows.add_block.Goals as goal

pub loop-v-init : goal.loop-v-init
loop-v-init g c =
    let f = masked_at g.row.N c.args.rows c.args.masks.now c.args.count in
    let none : g.row.N * (c.args.i * c.args.count) ≡ g.row.N * (c.args.i * c.args.count + 0) = omega arith in
    subst (IsAdded c.args.sums.now c.args.sums.now f (g.row.N * (c.args.i * c.args.count))) none (added-none c.args.sums.now f (g.row.N * (c.args.i * c.args.count)))

pub loop-v-preserved : goal.loop-v-preserved
loop-v-preserved g c =
    let f = masked_at g.row.N c.args.rows c.args.masks.now c.args.count in
    let b = c.args.i * c.args.count in
    let v = c.loop-v.v in
    let room : g.row.N * (b + v) + g.row.N ≤ length c.loop-v.sums = omega (arith, lanes-fit g.row.N b v c.args.count c.loop-v-test.true) in
    subst (IsAdded _ c.args.sums.now f (g.row.N * b)) (lanes-next g.row.N b v)
    (block-put g.row.N c.loop-v.sums c.args.sums.now c.args.rows c.args.masks.now
    _ _ _ _ _ _ _ _ _ c.args.count c.args.i v (g.row.N * b) c.start_of-start.result
    c.requires.lanes.1 c.requires.wide c.requires.b c.requires.c c.requires.d c.requires.masks c.requires.few (omega arith) room (omega arith) c.start_of-start.ensures
    c.lanes_of.ensures c.lanes_of-in_a.ensures c.lanes_of-in_b.ensures c.lanes_of-in_c.ensures c.lanes_of-in_d.ensures
    c.lanes_of-in-loop-v.ensures c.lanes_of-in-loop-v-2.ensures c.lanes_of-in-loop-v-3.ensures c.lanes_of-in-loop-v-4.ensures c.loop-v.invariant)

pub start_of-start-requires-clause-wide : goal.start_of-start-requires-clause-wide
start_of-start-requires-clause-wide g c = omega arith

pub start_of-start-requires-clause-memory : goal.start_of-start-requires-clause-memory
start_of-start-requires-clause-memory g c = omega arith

pub lanes_of-in_a-requires : goal.lanes_of-in_a-requires
lanes_of-in_a-requires g c = omega arith

pub lanes_of-in_b-requires : goal.lanes_of-in_b-requires
lanes_of-in_b-requires g c = omega arith

pub lanes_of-in_c-requires : goal.lanes_of-in_c-requires
lanes_of-in_c-requires g c = omega arith

pub lanes_of-in_d-requires : goal.lanes_of-in_d-requires
lanes_of-in_d-requires g c = omega arith

pub overflow_mul-at : goal.overflow_mul-at
overflow_mul-at g c = omega (arith, blocks-few g.row.N c.args.i c.args.count c.requires.lanes.0 c.requires.memory c.requires.few)

pub overflow_add-at : goal.overflow_add-at
overflow_add-at g c = omega (arith, blocks-few g.row.N c.args.i c.args.count c.requires.lanes.0 c.requires.memory c.requires.few)

pub overflow_mul-at-in-loop-v : goal.overflow_mul-at-in-loop-v
overflow_mul-at-in-loop-v g c = omega (arith, lanes-fit g.row.N (c.args.i * c.args.count) c.loop-v.v c.args.count c.loop-v-test.true)

pub lanes_of-requires : goal.lanes_of-requires
lanes_of-requires g c = omega (arith, lanes-fit g.row.N (c.args.i * c.args.count) c.loop-v.v c.args.count c.loop-v-test.true)

pub overflow_mul-v : goal.overflow_mul-v
overflow_mul-v g c = omega arith

pub lanes_of-requires-in-loop-v : goal.lanes_of-requires-in-loop-v
lanes_of-requires-in-loop-v g c = omega arith

pub overflow_mul-v-in-loop-v : goal.overflow_mul-v-in-loop-v
overflow_mul-v-in-loop-v g c = omega arith

pub overflow_add-v : goal.overflow_add-v
overflow_add-v g c = omega arith

pub lanes_of-requires-in-loop-v-2 : goal.lanes_of-requires-in-loop-v-2
lanes_of-requires-in-loop-v-2 g c = omega arith

pub overflow_mul-v-in-loop-v-2 : goal.overflow_mul-v-in-loop-v-2
overflow_mul-v-in-loop-v-2 g c = omega arith

pub overflow_add-v-in-loop-v : goal.overflow_add-v-in-loop-v
overflow_add-v-in-loop-v g c = omega arith

pub lanes_of-requires-in-loop-v-3 : goal.lanes_of-requires-in-loop-v-3
lanes_of-requires-in-loop-v-3 g c = omega arith

pub overflow_mul-v-in-loop-v-3 : goal.overflow_mul-v-in-loop-v-3
overflow_mul-v-in-loop-v-3 g c = omega arith

pub overflow_add-v-in-loop-v-2 : goal.overflow_add-v-in-loop-v-2
overflow_add-v-in-loop-v-2 g c = omega arith

pub lanes_of-requires-in-loop-v-4 : goal.lanes_of-requires-in-loop-v-4
lanes_of-requires-in-loop-v-4 g c = omega arith

pub store-sums : goal.store-sums
store-sums g c = omega (arith, lanes-fit g.row.N (c.args.i * c.args.count) c.loop-v.v c.args.count c.loop-v-test.true)

pub loop-v-smaller : goal.loop-v-smaller
loop-v-smaller g c = omega arith

pub returns : goal.returns
returns g c =
    let f = masked_at g.row.N c.args.rows c.args.masks.now c.args.count in
    let b = c.args.i * c.args.count in
    let end : c.loop-v.v ≡ c.args.count = omega arith in
    subst (λ v. IsAdded c.loop-v.sums c.args.sums.now f (g.row.N * b) (g.row.N * (b + v))) end c.loop-v.invariant
