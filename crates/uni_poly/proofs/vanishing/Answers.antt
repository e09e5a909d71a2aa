use Rattle.std.proofs.Common.{length, get_or, ap, ◌∙◌}
use Rattle.std.proofs.lemmas.List.{take_all}
use Rattle.std.proofs.lemmas.Result.{IfOk-from_err}
use borrow.Author.Count.{falls}
use Rattle.uni_poly.specs.Product.{product, linear, vanishing}
use Rattle.uni_poly.proofs.VanishingPolynomial.{vanishing_more}
use Rattle.uni_poly.proofs.vanishing.Goals as goal

pub loop-a-init : goal.loop-a-init
unfolding vanishing
loop-a-init c = c.in_ok-made.ensures.items

pub loop-a-preserved : goal.loop-a-preserved
loop-a-preserved c =
    let xs = c.args.xs.now in
    let i = c.loop-a.a-index in
    c.in_ok-made-2.ensures
    ∙ ap (λ p. product p (linear (get_or xs i 0))) (c.deref.ensures.value ∙ c.loop-a.invariant)
    ∙ vanishing_more xs i c.loop-a-test.true

pub loop-a-smaller : goal.loop-a-smaller
loop-a-smaller c = falls (length c.args.xs.now) c.loop-a.a-index c.loop-a-test.true

pub returns-in_err-made : goal.returns-in_err-made
returns-in_err-made c = IfOk-from_err c.from_residual.result _ c.from_residual.ensures.0

pub returns-in_err-made-2 : goal.returns-in_err-made-2
returns-in_err-made-2 c = IfOk-from_err c.from_residual-in_err-made-2.result _ c.from_residual-in_err-made-2.ensures.0

pub returns : goal.returns
returns c = c.loop-a.invariant ∙ ap vanishing (take_all c.loop-a.a-index c.args.xs.now c.loop-a-test.false)
