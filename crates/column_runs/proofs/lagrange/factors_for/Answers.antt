use Rattle.std.proofs.Common.{◌≡◌, ◌+◌, ◌<◌, length, drop, take, sym, ap, subst, ◌∙◌, arith}
use Rattle.std.proofs.lemmas.Result.{IfOk-weaker}
use Rattle.gf256.specs.Field.{◌⊗◌}
use Rattle.gf256.specs.Polynomial.{val}
use Rattle.uni_poly.specs.Product.{vanishing}
use Rattle.uni_poly.proofs.Coefficients.{bytes_from_get_or}
use Rattle.column_runs.specs.Lagrange.{weight, Extends}
use Rattle.column_runs.proofs.Extension.{extends}
use Rattle.column_runs.proofs.Weights.{factor-by_weight}
use Rattle.column_runs.proofs.lagrange.factors_for.Goals as goal

pub returns : goal.returns
returns c =
    let xs = c.args.xs.now in
    let x = c.args.x in
    let weights = c.args.weights.now in
    let new = c.multiply_by_those_behind.new.factors in
    let made = c.set_times_those_before.auto.factors in
    let same = c.multiply_by_those_behind.auto.factors in
    let size = c.requires.weights.size in
    let room = c.requires.room in
    IfOk-weaker c.products_of.result (λ v. v.items ≡ new) (λ v. Extends xs x v.items)
    (λ v is. subst (Extends xs x) (sym is)
    (extends xs new x (bytes_from_get_or xs (λ k. (c.type_inv.xs k).fits)) c.requires.distinct (omega (arith, size, made, same, room))
    (λ i l.
    let within : i < length weights = omega (arith, l, same, made, room) in
    let two : i + 2 ≡ i + 1 + 1 = omega arith in
    c.multiply_by_those_behind.ensures i (omega (arith, l, same))
    ∙ ap (λ v. v ⊗ val (vanishing (drop (i + 2) xs)) x)
    (c.set_times_those_before.ensures i within
    ∙ ap (λ w. w ⊗ val (vanishing (take (i + 1) xs)) x) (c.requires.weights.each i within))
    ∙ ap (λ n. (weight xs (i + 1) ⊗ val (vanishing (take (i + 1) xs)) x) ⊗ val (vanishing (drop n xs)) x) two
    ∙ factor-by_weight xs (i + 1) x)))
    c.products_of.ensures
