use Rattle.std.proofs.Common.{◌≡◌, length, subst, arith}
use Rattle.server_product.specs.SixRows.{six_at}
use Rattle.gf256.specs.Rows.{IsAdded}
use Rattle.gf256.proofs.Added.{added-none, added-place, added-all}
use Rattle.server_product.proofs.SixSums.{six-past, six-place}
use Rattle.server_product.proofs.six_rows.add_six_short.Goals as goal

pub loop-i-init : goal.loop-i-init
loop-i-init c = added-none c.args.acc.now (six_at c.args.six) 0

pub loop-i-preserved : goal.loop-i-preserved
loop-i-preserved c =
    added-place c.loop-i.acc c.args.acc.now (six_at c.args.six) 0 c.loop-i.i _ (omega arith) (omega arith)
    (six-place c.args.six c.loop-i.i _ _ _ _ _ _
    c.mul.ensures c.mul-in-loop-i.ensures c.mul-in-loop-i-2.ensures c.mul-in-loop-i-3.ensures c.mul-in-loop-i-4.ensures c.mul-in-loop-i-5.ensures)
    c.loop-i.invariant

pub returns : goal.returns
returns c =
    let g = six_at c.args.six in
    let n = length c.args.acc.now in
    let end : c.loop-i.i ≡ n = omega arith in
    added-all c.loop-i.acc c.args.acc.now g n
    (six-past c.args.six n c.requires.a c.requires.b c.requires.c c.requires.d c.requires.e c.requires.f)
    (subst (IsAdded c.loop-i.acc c.args.acc.now g 0) end c.loop-i.invariant)

pub bounds-a-i : goal.bounds-a-i
bounds-a-i c = omega arith

pub bounds-b-i : goal.bounds-b-i
bounds-b-i c = omega arith

pub bounds-c-i : goal.bounds-c-i
bounds-c-i c = omega arith

pub bounds-d-i : goal.bounds-d-i
bounds-d-i c = omega arith

pub bounds-e-i : goal.bounds-e-i
bounds-e-i c = omega arith

pub bounds-f-i : goal.bounds-f-i
bounds-f-i c = omega arith

pub bounds-acc-i : goal.bounds-acc-i
bounds-acc-i c = omega arith

pub bounds-acc-i-in-loop-i : goal.bounds-acc-i-in-loop-i
bounds-acc-i-in-loop-i c = omega arith

pub loop-i-smaller : goal.loop-i-smaller
loop-i-smaller c = omega arith
