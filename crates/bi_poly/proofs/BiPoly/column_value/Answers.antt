use Rattle.std.proofs.Common.{◌≡◌, ◌+◌, ◌-◌, ◌<◌, drop, subst, sym, ap, ap₂, ◌∙◌, arith}
use Rattle.std.proofs.lemmas.List.{length-map}
use Rattle.gf256.specs.Field.{◌⊕◌, ◌⊗◌}
use Rattle.gf256.specs.Polynomial.{coef, val}
use Rattle.uni_poly.proofs.Values.{val-drop, val-drop_all}
use Rattle.bi_poly.specs.Rows.{cell, column}
use Rattle.bi_poly.proofs.Degree.{coef-column}
use Rattle.bi_poly.proofs.BiPoly.column_value.Goals as goal

pub loop-j-init : goal.loop-j-init
loop-j-init c =
    let p = column c.args.self.now c.args.i in
    let size = length-map c.args.self.now (λ r. coef r c.args.i) in
    sym (val-drop_all p c.len-j.result c.args.gamma (omega arith))

pub loop-j-preserved : goal.loop-j-preserved
unfolding coef cell
loop-j-preserved c =
    let q = c.args.self.now in
    let i = c.args.i in
    let p = column q i in
    let j = c.loop-j.j in
    let up : j ≡ j - 1 + 1 = omega arith in
    let size = length-map q (λ r. coef r i) in
    let is = coef-column q i (j - 1) in
    c.add-value.ensures
    ∙ ap₂ ◌⊕◌
    (c.mul.ensures ∙ ap (λ v. v ⊗ c.args.gamma) (c.loop-j.invariant ∙ ap (λ k. val (drop k p) c.args.gamma) up))
    (c.coefficient.ensures ∙ ap (λ r. coef r i) c.row.ensures ∙ sym is)
    ∙ sym (val-drop p (j - 1) c.args.gamma (omega arith) (subst (λ x. x < 256) (sym is) (c.requires (j - 1) i)))

pub returns : goal.returns
returns c =
    let none : c.loop-j.j ≡ 0 = omega arith in
    c.loop-j.invariant ∙ ap (λ k. val (drop k (column c.args.self.now c.args.i)) c.args.gamma) none
