use Rattle.std.proofs.Common.{◌+◌, ◌-◌, length, ap₂, ◌∙◌, arith}
use Rattle.std.proofs.Math.Nat.{le-max_left, le-max_right}
use Rattle.gf256.specs.Field.{◌⊕◌}
use Rattle.bi_poly.proofs.Multiplication.{sum_coef-more, coef-multiply_and_add}
use Rattle.bi_poly.proofs.product.multiply_and_add.Goals as goal

pub loop-e-preserved : goal.loop-e-preserved
loop-e-preserved c =
    c.in_ok-push.ensures.items
    ∙ sum_coef-more c.args.p.now c.args.q.now c.args.r.now c.loop-e.made.items c.loop-e.e c.add.result c.loop-e.invariant
    (c.add.ensures ∙ ap₂ ◌⊕◌ c.product_coefficient.ensures c.coefficient.ensures)

pub returns : goal.returns
returns c =
    let p = c.args.p.now in
    let q = c.args.q.now in
    let r = c.args.r.now in
    let left = le-max_left (length p + length q - 1) (length r) in
    let right = le-max_right (length p + length q - 1) (length r) in
    let len = c.max-len.ensures in
    coef-multiply_and_add p q r c.loop-e.made.items c.loop-e.e c.loop-e.invariant (omega arith) (omega arith)
