use Rattle.std.proofs.Common.{◌≡◌, ◌<◌, inl, inr, ap, sym, subst, ◌∙◌, arith, lit<}
use Rattle.std.proofs.lemmas.Bool.{cases_lt}
use Rattle.gf256.specs.Polynomial.{coef}
use Rattle.bi_poly.specs.Rows.{row, cell}
use Rattle.bi_poly.proofs.Degree.{cell-past}
use Rattle.bi_poly.proofs.laws.coefficients_are_bytes.Goals as goal

pub loop-j-preserved : goal.loop-j-preserved
unfolding cell
loop-j-preserved c = λ k i l.
    elim (cases_lt k c.loop-j.j) [
      | inl below ↦ c.loop-j.invariant k i below
      | inr past ↦
          let e : k ≡ c.loop-j.j = omega arith in
          subst (λ x. x < 256) (ap (λ r. coef r i) (c.row.ensures ∙ ap (row c.args.q.now) (sym e))) (c.row_has_bytes.ensures i)
    ]

pub returns : goal.returns
returns c = λ k i.
    elim (cases_lt k c.loop-j.j) [
      | inl below ↦ c.loop-j.invariant k i below
      | inr past ↦ subst (λ x. x < 256) (sym (cell-past c.args.q.now k i (omega arith))) (lit< tt)
    ]
