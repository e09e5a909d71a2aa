use Rattle.std.proofs.Common.{◌≤◌, ◌+◌, ◌-◌, ◌*◌, ◌/◌, slice_index, ap, arith, mul-le-mul, ℕ, ◌<◌, le_trans, div-le_self, div-add-mod'}
use Rattle.row_workers.specs.Blocks.{place_of}
use Rattle.row_workers.proofs.BlockSums.{place-within}
use Rattle.row_workers.proofs.PieceSums.{filled-next}
use Rattle.row_workers.proofs.blocks.lay_out_one.Goals as goal

-- the sums of the blocks before that of column c
sums_before : (c lanes width n : ℕ) → width ≤ 65536 → n ≤ 16 → c < width → c / lanes * n ≤ 1048576
sums_before c lanes width n memory few within =
    let block : c / lanes ≤ 65536 = le_trans (div-le_self c lanes) (omega arith) in
    omega (arith, mul-le-mul block few)

pub start_of-requires-clause-wide : goal.start_of-requires-clause-wide
start_of-requires-clause-wide g c = c.requires.wide

pub start_of-requires-clause-memory : goal.start_of-requires-clause-memory
start_of-requires-clause-memory g c = omega (arith, div-add-mod' c.loop-c.c g.row.N)

pub overflow_sub-sums : goal.overflow_sub-sums
overflow_sub-sums g c = omega (arith, div-add-mod' c.loop-c.c g.row.N)

pub bounds-sums-c : goal.bounds-sums-c
bounds-sums-c g c = omega arith

pub loop-c-init : goal.loop-c-init
loop-c-init g c = λ k l. absurd (omega arith)

pub overflow_mul-sums : goal.overflow_mul-sums
overflow_mul-sums g c =
    let h = sums_before c.loop-c.c g.row.N c.args.width c.args.count c.requires.memory c.requires.few c.loop-c-test.true in
    omega (arith, h)

pub overflow_add-sums : goal.overflow_add-sums
overflow_add-sums g c =
    let h = sums_before c.loop-c.c g.row.N c.args.width c.args.count c.requires.memory c.requires.few c.loop-c-test.true in
    omega (arith, h)

pub overflow_mul-sums-in-loop-c : goal.overflow_mul-sums-in-loop-c
overflow_mul-sums-in-loop-c g c =
    let within = place-within g.row.N c.args.width c.args.count c.args.v c.loop-c.c c.requires.some c.requires.query c.requires.wide c.loop-c-test.true in
    omega (arith, within, c.requires.blocks)

pub overflow_add-sums-in-loop-c : goal.overflow_add-sums-in-loop-c
overflow_add-sums-in-loop-c g c =
    let within = place-within g.row.N c.args.width c.args.count c.args.v c.loop-c.c c.requires.some c.requires.query c.requires.wide c.loop-c-test.true in
    omega (arith, within, c.start_of.ensures, c.requires.blocks)

pub bounds-blocks-i : goal.bounds-blocks-i
bounds-blocks-i g c =
    let within = place-within g.row.N c.args.width c.args.count c.args.v c.loop-c.c c.requires.some c.requires.query c.requires.wide c.loop-c-test.true in
    omega (arith, within, c.start_of.ensures, c.requires.blocks)

pub loop-c-smaller : goal.loop-c-smaller
loop-c-smaller g c = omega arith

pub loop-c-preserved : goal.loop-c-preserved
loop-c-preserved g c =
    let at = c.loop-c.c in
    filled-next c.loop-c.sums (λ k. slice_index c.args.blocks.now (place_of g.row.N c.args.width c.args.count c.args.v k)) at _ (omega arith)
    (ap (λ start. slice_index c.args.blocks.now (g.row.N * (at / g.row.N * c.args.count + c.args.v) + (at - start))) c.start_of.ensures) c.loop-c.invariant

pub returns : goal.returns
returns g c = λ k l. c.loop-c.invariant k (omega arith)
