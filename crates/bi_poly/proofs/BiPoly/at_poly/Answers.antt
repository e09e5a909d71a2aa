use Rattle.std.proofs.Common.{◌≡◌, ◌+◌, ◌-◌, get_or, drop, sym, ap, ap₂, ◌∙◌, arith}
use Rattle.gf256.specs.Field.{◌⊕◌}
use Rattle.gf256.specs.Polynomial.{coef}
use Rattle.uni_poly.specs.Product.{product_coef}
use Rattle.bi_poly.proofs.Composition.{at_series, at_series-drop, at_series-end, at_poly_coef-series}
use Rattle.bi_poly.proofs.BiPoly.at_poly.Goals as goal

pub loop-j-init : goal.loop-j-init
unfolding coef
loop-j-init c = λ e.
    ap (λ p. get_or p e 0) c.new-made.ensures.items
    ∙ sym (at_series-end c.args.self.now (coef c.args.phi.now) c.len-j.result e (omega arith))

pub loop-j-preserved : goal.loop-j-preserved
loop-j-preserved c = λ e.
    let q = c.args.self.now in
    let phi = c.args.phi.now in
    let p = c.loop-j.made.items in
    let j = c.loop-j.j in
    let up : j ≡ j - 1 + 1 = omega arith in
    c.in_ok-made.ensures e
    ∙ ap₂ (λ s r. product_coef phi s e ⊕ coef r e) c.deref.ensures.value c.row.ensures
    ∙ at_series-drop q phi p (j - 1) e (omega arith) (λ i. c.loop-j.invariant i ∙ ap (λ k. at_series (drop k q) (coef phi) i) up)

pub returns : goal.returns
returns c = λ e.
    let none : c.loop-j.j ≡ 0 = omega arith in
    c.loop-j.invariant e ∙ ap (λ k. at_series (drop k c.args.self.now) (coef c.args.phi.now) e) none
    ∙ sym (at_poly_coef-series c.args.self.now c.args.phi.now e)
