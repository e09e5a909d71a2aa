use Rattle.std.proofs.Common.{◌≡◌, ◌+◌, ◌*◌, length, ap, subst, arith, mul-le-mul_left}
use Rattle.std.specs.Int.{div_ceil}
use Rattle.gf256.specs.Rows.{IsAdded}
use Rattle.gf256.proofs.Added.{added-none, added-on}
use Rattle.server_product.specs.Blocks.{four_at}
use Rattle.row_workers.proofs.BlockSums.{block-begins}
use Rattle.gf256.proofs.FlatRows.{row_within}
use Rattle.server_product.proofs.four_rows.add_four_rows.Goals as goal

pub loop-i-init : goal.loop-i-init
loop-i-init g c =
    let f = four_at g.row.N c.args.rows c.args.factors.now c.args.count in
    let none : 0 ≡ g.row.N * (0 * c.args.count) = grind arith in
    subst (IsAdded c.args.sums.now c.args.sums.now f 0) none (added-none c.args.sums.now f 0)

pub loop-i-preserved : goal.loop-i-preserved
loop-i-preserved g c =
    let lanes = g.row.N in
    let f = four_at lanes c.args.rows c.args.factors.now c.args.count in
    let n = c.args.count in
    let i = c.loop-i.i in
    let next : lanes * (i * n + n) ≡ lanes * ((i + 1) * n) = grind arith in
    subst (IsAdded c.add_block.new.sums c.args.sums.now f 0) next
    (added-on c.add_block.new.sums c.loop-i.sums c.args.sums.now f 0 (lanes * (i * n)) (lanes * (i * n + n)) (omega arith) (grind arith) c.loop-i.invariant c.add_block.ensures)

pub returns : goal.returns
returns g c = λ p l.
    let end : c.loop-i.i ≡ div_ceil (length c.args.rows.a.now) g.row.N = omega arith in
    let places = ap (λ i. g.row.N * (i * c.args.count)) end in
    c.loop-i.invariant.added p (omega arith) (omega (arith, l, places))

pub add_block-requires-clause-memory : goal.add_block-requires-clause-memory
add_block-requires-clause-memory g c =
    omega (arith, block-begins g.row.N (length c.args.rows.a.now) c.loop-i.i c.requires.lanes.0 (omega arith), c.requires.memory)

pub add_block-requires-clause-room : goal.add_block-requires-clause-room
add_block-requires-clause-room g c =
    let within = row_within c.loop-i.i (div_ceil (length c.args.rows.a.now) g.row.N) c.args.count (omega arith) in
    omega (arith, mul-le-mul_left g.row.N within, c.requires.room)
