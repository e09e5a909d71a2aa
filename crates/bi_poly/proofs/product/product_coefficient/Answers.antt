use Rattle.std.proofs.Common.{get_or, sym, ap, ap₂, ◌∙◌, arith}
use Rattle.gf256.specs.Field.{◌⊕◌, ◌⊗◌}
use Rattle.gf256.specs.Polynomial.{coef}
use Rattle.bi_poly.proofs.Multiplication.{product_to-none, product_to-more, product_to-all}
use Rattle.bi_poly.proofs.product.product_coefficient.Goals as goal

pub loop-i-init : goal.loop-i-init
loop-i-init c = sym (product_to-none c.args.p.now c.args.q.now c.args.e)

pub loop-i-preserved : goal.loop-i-preserved
unfolding coef
loop-i-preserved c =
    let p = c.args.p.now in
    let i = c.loop-i.i in
    c.add-sum.ensures
    ∙ ap₂ ◌⊕◌ c.loop-i.invariant (c.mul.ensures ∙ ap (◌⊗◌ (get_or p i 0)) c.coefficient.ensures)
    ∙ sym (product_to-more p c.args.q.now c.args.e i)

pub returns : goal.returns
returns c = c.loop-i.invariant ∙ product_to-all c.args.p.now c.args.q.now c.args.e c.loop-i.i (omega arith)
