use Rattle.std.proofs.Common.{◌≡◌, ◌+◌, ◌*◌, length, ap, subst, arith, ◌≤◌, lt_of_lt_of_le, mul-le-mul_left}
use Rattle.std.specs.Int.{div_ceil}
use Rattle.gf256.specs.Rows.{IsAdded}
use Rattle.gf256.proofs.Added.{added-none, added-on}
use Rattle.xor_answers.specs.Masked.{masked_at}
use Rattle.gf256.proofs.FlatRows.{row_within}
use Rattle.row_workers.proofs.BlockSums.{block-begins}
use Rattle.xor_answers.proofs.four_rows.add_four_rows.Goals as goal

pub loop-i-init : goal.loop-i-init
loop-i-init g c =
    let f = masked_at g.row.N c.args.rows c.args.masks.now c.args.count in
    let none : 0 ≡ g.row.N * (0 * c.args.count) = omega arith in
    subst (IsAdded c.args.sums.now c.args.sums.now f 0) none (added-none c.args.sums.now f 0)

pub loop-i-preserved : goal.loop-i-preserved
loop-i-preserved g c =
    let f = masked_at g.row.N c.args.rows c.args.masks.now c.args.count in
    let n = c.args.count in
    let i = c.loop-i.i in
    let next : g.row.N * (i * n + n) ≡ g.row.N * ((i + 1) * n) = grind arith in
    subst (IsAdded c.add_block.new.sums c.args.sums.now f 0) next
    (added-on c.add_block.new.sums c.loop-i.sums c.args.sums.now f 0 (g.row.N * (i * n)) (g.row.N * (i * n + n)) (omega arith) (omega arith) c.loop-i.invariant c.add_block.ensures)

pub returns : goal.returns
returns g c = λ p l.
    let end : c.loop-i.i ≡ div_ceil (length c.args.rows.a.now) g.row.N = omega arith in
    let places = ap (λ i. g.row.N * (i * c.args.count)) end in
    c.loop-i.invariant.added p (omega arith) (omega (arith, l, places))

pub div_ceil-i-end-requires : goal.div_ceil-i-end-requires
div_ceil-i-end-requires g c = omega arith

pub add_block-requires-clause-lanes : goal.add_block-requires-clause-lanes
add_block-requires-clause-lanes g c = c.requires.lanes

pub add_block-requires-clause-wide : goal.add_block-requires-clause-wide
add_block-requires-clause-wide g c = c.requires.wide

pub add_block-requires-clause-b : goal.add_block-requires-clause-b
add_block-requires-clause-b g c = c.requires.b

pub add_block-requires-clause-c : goal.add_block-requires-clause-c
add_block-requires-clause-c g c = c.requires.c

pub add_block-requires-clause-d : goal.add_block-requires-clause-d
add_block-requires-clause-d g c = c.requires.d

pub add_block-requires-clause-masks : goal.add_block-requires-clause-masks
add_block-requires-clause-masks g c = c.requires.masks

pub add_block-requires-clause-some : goal.add_block-requires-clause-some
add_block-requires-clause-some g c = c.requires.some

pub add_block-requires-clause-few : goal.add_block-requires-clause-few
add_block-requires-clause-few g c = c.requires.few

pub add_block-requires-clause-memory : goal.add_block-requires-clause-memory
add_block-requires-clause-memory g c =
    lt_of_lt_of_le (block-begins g.row.N (length c.args.rows.a.now) c.loop-i.i c.requires.lanes.0 (omega arith)) c.requires.memory

pub add_block-requires-clause-room : goal.add_block-requires-clause-room
add_block-requires-clause-room g c =
    let n = c.args.count in
    let most = row_within c.loop-i.i (div_ceil (length c.args.rows.a.now) g.row.N) n (omega arith) in
    let room : g.row.N * (c.loop-i.i * n + n) ≤ length c.loop-i.sums = omega (arith, mul-le-mul_left g.row.N most, c.requires.room) in
    room

pub loop-i-smaller : goal.loop-i-smaller
loop-i-smaller g c = omega arith
