use Rattle.std.proofs.Common.{ℕ, List, [], ◌∷◌, ◌++◌, sym, ap₂, ◌∙◌, arith}
use Rattle.std.proofs.lemmas.List.{take_all, take_more}
use Rattle.std.proofs.lemmas.Result.{IfOk-from_err}
use Rattle.column_runs.proofs.lagrange.products_of.Goals as goal

pub returns-in_err-made : goal.returns-in_err-made
returns-in_err-made c = IfOk-from_err c.from_residual.result _ c.from_residual.ensures.0

pub returns-in_err-push : goal.returns-in_err-push
returns-in_err-push c = IfOk-from_err c.from_residual-in_err-push.result _ c.from_residual-in_err-push.ensures.0

pub loop-factor-init : goal.loop-factor-init
loop-factor-init c = c.in_ok-made.ensures.items

pub loop-factor-smaller : goal.loop-factor-smaller
loop-factor-smaller c = omega (arith, c.loop-factor-test.true)

pub loop-factor-preserved : goal.loop-factor-preserved
loop-factor-preserved c =
    c.in_ok-push.ensures.items ∙ ap₂ (λ (xs : List ℕ) x. xs ++ x ∷ []) c.loop-factor.invariant c.of.ensures
    ∙ sym (take_more c.args.factors.now c.loop-factor.factor-index 0 c.loop-factor-test.true)

pub returns : goal.returns
returns c = c.loop-factor.invariant ∙ take_all c.loop-factor.factor-index c.args.factors.now c.loop-factor-test.false
