use Rattle.std.proofs.Common.{◌≡◌, ◌≤◌, ◌+◌, ◌*◌, length, bit_xor, sym, subst, arith, mul-le-mul_left}
use Rattle.std.specs.Simd.Lanes.{zip2, put_chunk}
use Rattle.gf256.specs.Rows.{IsAdded}
use Rattle.gf256.proofs.Added.{added-none}
use Rattle.row_workers.proofs.BlockSums.{blocks-few, lanes-fit}
use Rattle.server_product.specs.Blocks.{four_at}
use Rattle.server_product.proofs.BlockSums.{block-put}
use Rattle.server_product.proofs.four_rows.add_block.Goals as goal

pub loop-v-init : goal.loop-v-init
loop-v-init g c =
    let n = g.row.N in
    let f = four_at n c.args.rows c.args.factors.now c.args.count in
    let none : n * (c.args.i * c.args.count) ≡ n * (c.args.i * c.args.count + 0) = grind arith in
    subst (IsAdded c.args.sums.now c.args.sums.now f (n * (c.args.i * c.args.count))) none (added-none c.args.sums.now f (n * (c.args.i * c.args.count)))

pub loop-v-preserved : goal.loop-v-preserved
loop-v-preserved g c =
    let n = g.row.N in
    let f = four_at n c.args.rows c.args.factors.now c.args.count in
    let old = c.args.sums.now in
    let b = c.args.i * c.args.count in
    let v = c.loop-v.v in
    let at = n * (b + v) in
    let next : at + n ≡ n * (b + (v + 1)) = grind arith in
    let later : b + (v + 1) ≤ b + c.args.count = omega arith in
    let room : at + n ≤ length c.loop-v.sums = omega (arith, next, mul-le-mul_left n later, c.requires.room) in
    let done : n * b ≤ at = mul-le-mul_left n (let more : b ≤ b + v = omega arith in more) in
    subst (λ base. IsAdded (put_chunk at c.loop-v.sums (zip2 bit_xor (zip2 bit_xor (zip2 bit_xor (zip2 bit_xor base c.times.result) c.times-in-loop-v.result) c.times-in-loop-v-2.result) c.times-in-loop-v-3.result)) old f (n * b) (n * (b + (v + 1))))
    (sym c.lanes_of.ensures)
    (subst (IsAdded _ old f (n * b)) next
    (block-put n c.loop-v.sums old c.args.rows c.args.factors.now
    c.lanes_of-in_a.result c.lanes_of-in_b.result c.lanes_of-in_c.result c.lanes_of-in_d.result
    c.times.result c.times-in-loop-v.result c.times-in-loop-v-2.result c.times-in-loop-v-3.result c.args.count c.args.i v (n * b) c.start_of-start.result
    c.requires.lanes.0 c.requires.wide c.requires.b c.requires.c c.requires.d (omega arith) room done c.start_of-start.ensures
    c.lanes_of-in_a.ensures c.lanes_of-in_b.ensures c.lanes_of-in_c.ensures c.lanes_of-in_d.ensures
    c.times.ensures c.times-in-loop-v.ensures c.times-in-loop-v-2.ensures c.times-in-loop-v-3.ensures c.loop-v.invariant))

pub overflow_mul-at : goal.overflow_mul-at
overflow_mul-at g c = omega (arith, blocks-few g.row.N c.args.i c.args.count c.requires.lanes.0 c.requires.memory c.requires.few)

pub overflow_add-at : goal.overflow_add-at
overflow_add-at g c = omega (arith, blocks-few g.row.N c.args.i c.args.count c.requires.lanes.0 c.requires.memory c.requires.few)

pub overflow_mul-at-in-loop-v : goal.overflow_mul-at-in-loop-v
overflow_mul-at-in-loop-v g c = omega (arith, lanes-fit g.row.N (c.args.i * c.args.count) c.loop-v.v c.args.count c.loop-v-test.true)

pub lanes_of-requires : goal.lanes_of-requires
lanes_of-requires g c = omega (arith, lanes-fit g.row.N (c.args.i * c.args.count) c.loop-v.v c.args.count c.loop-v-test.true)

pub store-sums : goal.store-sums
store-sums g c = omega (arith, lanes-fit g.row.N (c.args.i * c.args.count) c.loop-v.v c.args.count c.loop-v-test.true)

pub returns : goal.returns
returns g c =
    let n = g.row.N in
    let f = four_at n c.args.rows c.args.factors.now c.args.count in
    let b = c.args.i * c.args.count in
    let end : c.loop-v.v ≡ c.args.count = omega arith in
    subst (λ v. IsAdded c.loop-v.sums c.args.sums.now f (n * b) (n * (b + v))) end c.loop-v.invariant
