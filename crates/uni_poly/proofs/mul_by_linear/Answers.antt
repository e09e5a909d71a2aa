use Rattle.std.proofs.Common.{◌≡◌, ◌+◌, ◌++◌, ◌∷◌, [], get_or, drop, length, ap, ◌∙◌}
use Rattle.std.proofs.lemmas.Result.{IfOk-from_err}
use borrow.Author.Count.{falls}
use Rattle.gf256.specs.Field.{◌⊕◌, ◌⊗◌}
use Rattle.gf256.specs.Polynomial.{coef}
use Rattle.uni_poly.proofs.LinearFactor.{with_carry, with_carry-product, with_carry-more, with_carry-end}
use Rattle.uni_poly.proofs.mul_by_linear.Goals as goal

pub loop-c-preserved : goal.loop-c-preserved
loop-c-preserved c =
    let p = c.args.p.now in
    let i = c.loop-c.c-index in
    let k = c.loop-c.carry in
    let r = c.args.root in
    let pushed : c.push.new.self.items ≡ c.loop-c.made.items ++ (k ⊕ get_or p i 0 ⊗ r) ∷ [] =
    c.in_ok-push.ensures.items ∙ ap (λ x. c.loop-c.made.items ++ x ∷ []) (c.add.ensures ∙ ap (◌⊕◌ k) c.mul.ensures) in
    ap (λ l. l ++ with_carry (get_or p i 0) (drop (i + 1) p) r) pushed
    ∙ with_carry-more c.loop-c.made.items k p i r c.loop-c-test.true
    ∙ c.loop-c.invariant

pub returns : goal.returns
unfolding coef
returns c =
    let p = c.args.p.now in
    let r = c.args.root in
    c.in_ok-push-2.ensures.items
    ∙ ap (λ l. c.loop-c.made.items ++ l) (with_carry-end c.loop-c.carry p c.loop-c.c-index r c.loop-c-test.false)
    ∙ c.loop-c.invariant
    ∙ with_carry-product p r (λ e. (c.type_inv.p e).fits)

pub loop-c-smaller : goal.loop-c-smaller
loop-c-smaller c = falls (length c.args.p.now) c.loop-c.c-index c.loop-c-test.true

pub returns-in_err-push : goal.returns-in_err-push
returns-in_err-push c = IfOk-from_err c.from_residual.result _ c.from_residual.ensures.0

pub returns-in_err-push-2 : goal.returns-in_err-push-2
returns-in_err-push-2 c = IfOk-from_err c.from_residual-in_err-push-2.result _ c.from_residual-in_err-push-2.ensures.0
