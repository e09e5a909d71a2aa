use Rattle.std.proofs.Common.{get_or, take, sym, ap, ap₂, ◌∙◌}
use Rattle.std.proofs.lemmas.List.{take_all}
use Rattle.gf256.specs.Field.{◌⊗◌}
use Rattle.gf256.specs.Polynomial.{val}
use Rattle.uni_poly.specs.Product.{vanishing}
use Rattle.uni_poly.proofs.Values.{val_one}
use Rattle.uni_poly.proofs.LinearFactor.{val-product_linear}
use Rattle.uni_poly.proofs.VanishingPolynomial.{vanishing_more}
use Rattle.column_runs.proofs.lagrange.vanishing_value.Goals as goal

pub loop-a-init : goal.loop-a-init
unfolding vanishing
loop-a-init c = sym (val_one c.args.x)

pub loop-a-preserved : goal.loop-a-preserved
loop-a-preserved c =
    let xs = c.args.xs.now in
    let i = c.loop-a.a-index in
    let x = c.args.x in
    c.mul-product.ensures ∙ ap₂ ◌⊗◌ c.add.ensures c.loop-a.invariant
    ∙ sym (val-product_linear (vanishing (take i xs)) (get_or xs i 0) x)
    ∙ ap (λ p. val p x) (vanishing_more xs i c.loop-a-test.true)

pub returns : goal.returns
returns c =
    c.loop-a.invariant ∙ ap (λ xs. val (vanishing xs) c.args.x) (take_all c.loop-a.a-index c.args.xs.now c.loop-a-test.false)
