use Rattle.std.proofs.Common.{◌∙◌, ◌++◌, ◌∷◌, [], ℕ, List, map, ap, ap₂, sym, arith}
use Rattle.std.proofs.lemmas.List.{map_more, take_all}
use Rattle.std.proofs.lemmas.Result.{IfOk-from_err}
use Rattle.gf256.specs.Polynomial.{coef}
use Rattle.bi_poly.proofs.BiPoly.column.Goals as goal

pub loop-j-preserved : goal.loop-j-preserved
loop-j-preserved c =
    c.in_ok-push.ensures.items
    ∙ ap₂ (λ (xs : List ℕ) (x : ℕ). xs ++ x ∷ []) c.loop-j.invariant (c.coefficient.ensures ∙ ap (λ (r : List ℕ). coef r c.args.i) c.row.ensures)
    ∙ sym (map_more (λ (r : List ℕ). coef r c.args.i) c.args.self.now c.loop-j.j [] (omega (arith, c.loop-j-test.true, c.len-j-end.ensures)))

pub returns-in_err-push : goal.returns-in_err-push
returns-in_err-push c = IfOk-from_err c.from_residual-in_err-push.result _ c.from_residual-in_err-push.ensures.0

pub returns : goal.returns
returns c = c.loop-j.invariant ∙ ap (map (λ (r : List ℕ). coef r c.args.i)) (take_all c.loop-j.j c.args.self.now (omega (arith, c.loop-j-test.false, c.len-j-end.ensures)))

pub returns-in_err-made : goal.returns-in_err-made
returns-in_err-made c = IfOk-from_err c.from_residual.result _ c.from_residual.ensures.0
