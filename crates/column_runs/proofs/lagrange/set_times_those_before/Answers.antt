use Rattle.std.proofs.Common.{◌≡◌, ◌+◌, ◌<◌, [], length, get_or, set, take, refl, sym, ap, ap₂, ◌∙◌, arith, below_more}
use Rattle.std.proofs.lemmas.List.{get_or-set_same, get_or-set_other}
use Rattle.gf256.specs.Field.{◌⊗◌}
use Rattle.gf256.specs.Polynomial.{val}
use Rattle.uni_poly.specs.Product.{vanishing}
use Rattle.uni_poly.proofs.LinearFactor.{val-product_linear}
use Rattle.uni_poly.proofs.VanishingPolynomial.{vanishing_more, vanishing_none}
use Rattle.column_runs.proofs.lagrange.set_times_those_before.Goals as goal

pub loop-i-init : goal.loop-i-init
loop-i-init c = record {
  product = vanishing_none [] c.args.x refl;
  each = λ k l. absurd (omega (arith, l));
}

pub loop-i-preserved : goal.loop-i-preserved
loop-i-preserved c =
    let xs = c.args.xs.now in
    let x = c.args.x in
    let i = c.loop-i.i in
    let factors = c.loop-i.factors in
    let y = c.mul.result in
    let within : i < length xs = omega (arith, c.requires.weights, c.loop-i-test.true) in
    let room : i < length factors = omega (arith, c.requires.room, c.loop-i.auto.factors, c.loop-i-test.true) in
    let product : c.mul-product.result ≡ val (vanishing (take (i + 1) xs)) x =
    c.mul-product.ensures ∙ ap₂ ◌⊗◌ c.add.ensures c.loop-i.invariant.product
    ∙ sym (val-product_linear (vanishing (take i xs)) (get_or xs i 0) x)
    ∙ ap (λ p. val p x) (vanishing_more xs i within) in
    record {
      product = product;
      each =
          below_more (λ k. get_or (set factors i y) k 0 ≡ get_or c.args.weights.now k 0 ⊗ val (vanishing (take (k + 1) xs)) x) i
          (λ k l. get_or-set_other factors i k y 0 (λ e. omega (arith, e, l)) ∙ c.loop-i.invariant.each k l)
          (get_or-set_same factors i y 0 room ∙ c.mul.ensures ∙ ap (λ v. get_or c.args.weights.now i 0 ⊗ v) product);
    }

pub returns : goal.returns
returns c = λ i l. c.loop-i.invariant.each i (omega (arith, l, c.loop-i-test.false))
