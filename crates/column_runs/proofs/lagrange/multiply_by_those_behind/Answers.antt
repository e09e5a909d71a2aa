use Rattle.std.proofs.Common.{◌≡◌, ◌+◌, ◌-◌, ◌<◌, length, get_or, set, drop, inl, inr, refl, sym, ap, ap₂, ◌∙◌, arith, length-set, get_or-set_same, get_or-set_other, length-drop}
use Rattle.std.proofs.lemmas.Bool.{cases_eq}
use Rattle.gf256.specs.Field.{◌⊗◌}
use Rattle.gf256.specs.Polynomial.{val}
use Rattle.uni_poly.specs.Product.{vanishing}
use Rattle.uni_poly.proofs.VanishingPolynomial.{vanishing_none, vanishing_drop-more}
use Rattle.column_runs.proofs.lagrange.multiply_by_those_behind.Goals as goal

pub loop-i-init : goal.loop-i-init
loop-i-init c =
    let xs = c.args.xs.now in
    let n = length c.args.factors.now + 1 in
    let past = length-drop n xs in
    record {
      product = vanishing_none (drop n xs) c.args.x (omega (arith, past, c.requires));
      done = λ k from l. absurd (omega (arith, from, l));
      rest = λ k l. refl;
    }

pub loop-i-preserved : goal.loop-i-preserved
loop-i-preserved c =
    let xs = c.args.xs.now in
    let x = c.args.x in
    let old = c.args.factors.now in
    let factors = c.loop-i.factors in
    let j = c.loop-i.i - 1 in
    let up : j + 1 ≡ c.loop-i.i = omega (arith, c.loop-i-test.true) in
    let next : c.loop-i.i + 1 ≡ j + 2 = omega (arith, up) in
    let within : j < length factors = omega (arith, up, c.loop-i.auto.i, c.loop-i.auto.factors) in
    let before = c.loop-i.invariant.product ∙ ap (λ n. val (vanishing (drop n xs)) x) next in
    let made = c.mul.ensures ∙ ap₂ ◌⊗◌ (c.loop-i.invariant.rest j (omega (arith, up))) before in
    let more = vanishing_drop-more xs (j + 1) x (omega (arith, within, c.requires, c.loop-i.auto.factors)) in
    let two : j + 1 + 1 ≡ j + 2 = omega arith in
    let size = length-set factors j c.mul.result in
    record {
      product =
          c.mul-product.ensures ∙ ap₂ ◌⊗◌ c.add.ensures (before ∙ ap (λ n. val (vanishing (drop n xs)) x) (sym two)) ∙ more;
      done = λ k from l.
          elim (cases_eq k j) [
            | inl here ↦
                ap (λ n. get_or (set factors j c.mul.result) n 0) here ∙ get_or-set_same factors j c.mul.result 0 within ∙ made
                ∙ ap (λ n. get_or old n 0 ⊗ val (vanishing (drop (n + 2) xs)) x) (sym here)
            | inr other ↦
                get_or-set_other factors j k c.mul.result 0 other ∙ c.loop-i.invariant.done k (omega (arith, from, other, up)) (omega (arith, l, size))
          ];
      rest = λ k l.
          get_or-set_other factors j k c.mul.result 0 (λ same. omega (arith, l, same)) ∙ c.loop-i.invariant.rest k (omega (arith, l, up));
    }
