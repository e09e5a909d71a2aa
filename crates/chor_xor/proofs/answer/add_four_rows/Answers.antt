use Rattle.std.proofs.Common.{◌≡◌, length, subst, arith}
use Rattle.gf256.specs.Rows.{IsAdded}
use Rattle.gf256.proofs.Added.{added-none, added-place, added-all}
use Rattle.chor_xor.proofs.FourSums.{four_at, four-past, four-place}
use Rattle.chor_xor.proofs.answer.add_four_rows.Goals as goal

pub loop-i-init : goal.loop-i-init
loop-i-init c = added-none c.args.acc.now (four_at c.args.a.now c.args.b.now c.args.c.now c.args.d.now) 0

pub loop-i-preserved : goal.loop-i-preserved
loop-i-preserved c =
    added-place c.loop-i.acc c.args.acc.now (four_at c.args.a.now c.args.b.now c.args.c.now c.args.d.now) 0 c.loop-i.i _
    (omega arith) (omega arith) (four-place c.args.a.now c.args.b.now c.args.c.now c.args.d.now c.loop-i.i) c.loop-i.invariant

pub returns : goal.returns
unfolding four_at
returns c =
    let g = four_at c.args.a.now c.args.b.now c.args.c.now c.args.d.now in
    let n = length c.args.acc.now in
    let end : c.loop-i.i ≡ n = omega arith in
    added-all c.loop-i.acc c.args.acc.now g n
    (four-past c.args.a.now c.args.b.now c.args.c.now c.args.d.now n c.requires.a c.requires.b c.requires.c c.requires.d)
    (subst (IsAdded c.loop-i.acc c.args.acc.now g 0) end c.loop-i.invariant)
