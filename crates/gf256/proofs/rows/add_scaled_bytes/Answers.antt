use Rattle.std.proofs.Common.{◌≡◌, length, arith}
use Rattle.gf256.specs.Rows.{multiple}
use Rattle.gf256.proofs.Added.{added-none, added-place, added-all}
use Rattle.gf256.proofs.RowSums.{multiple-past}
use Rattle.gf256.proofs.rows.add_scaled_bytes.Goals as goal

pub loop-i-init : goal.loop-i-init
loop-i-init c = added-none c.args.acc.now (multiple c.args.row.now c.args.factor) 0

pub loop-i-preserved : goal.loop-i-preserved
loop-i-preserved c =
    added-place c.loop-i.acc c.args.acc.now (multiple c.args.row.now c.args.factor) 0 c.loop-i.i c.mul.result (omega arith) (omega arith)
    c.mul.ensures c.loop-i.invariant

pub returns : goal.returns
returns c = λ k.
    let end : c.loop-i.i ≡ length c.args.acc.now = omega arith in
    added-all c.loop-i.acc c.args.acc.now (multiple c.args.row.now c.args.factor) c.loop-i.i
    (λ j l. multiple-past c.args.row.now c.args.factor j (omega (arith, c.requires))) c.loop-i.invariant k
