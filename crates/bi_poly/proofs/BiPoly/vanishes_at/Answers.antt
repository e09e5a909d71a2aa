use Rattle.std.proofs.Common.{◌∙◌, inl, inr, sym, ap, arith}
use Rattle.std.proofs.lemmas.Bool.{cases_lt}
use Rattle.gf256.specs.Field.{◌⊗◌}
use Rattle.gf256.proofs.FieldLaws.{zero_mul}
use Rattle.uni_poly.proofs.Values.{val_zero}
use Rattle.bi_poly.specs.Rows.{column}
use Rattle.bi_poly.proofs.Composition.{at_poly_coef-constant}
use Rattle.bi_poly.proofs.Shift.{column-past}
use Rattle.bi_poly.proofs.BiPoly.vanishes_at.Goals as goal

pub returns-then-column_value-ne0 : goal.returns-then-column_value-ne0
returns-then-column_value-ne0 c = (
  λ t. cc,
  λ h. absurd (c.if-column_value-ne0.true
      (c.column_value.ensures ∙ sym (at_poly_coef-constant c.args.self.now c.args.gamma c.loop-i.i c.coefficients_are_bytes.ensures) ∙ h c.loop-i.i)),
)

pub returns : goal.returns
returns c = (
  λ t e.
      let q = c.args.self.now in
      at_poly_coef-constant q c.args.gamma e c.coefficients_are_bytes.ensures
      ∙ elim (cases_lt e c.loop-i.i) [
        | inl below ↦ c.loop-i.invariant e below
        | inr past ↦
            val_zero (column q e) c.args.gamma
            (λ j. ap (λ x. x ⊗ 1) (column-past q e j (λ k. let enough = c.width-i-end.ensures.enough k in omega (arith, past, enough))) ∙ zero_mul 1)
      ],
  λ h. cc,
)
