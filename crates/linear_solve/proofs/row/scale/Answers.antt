use Rattle.std.proofs.Common.{◌≡◌, length, inl, inr, ap, sym, ◌∙◌, arith}
use Rattle.std.proofs.lemmas.Bool.{cases_lt}
use Rattle.std.proofs.lemmas.List.{get_or_past}
use Rattle.gf256.specs.Field.{◌⊗◌}
use Rattle.gf256.proofs.FieldLaws.{zero_mul}
use Rattle.linear_solve.specs.Kernel.{component}
use Rattle.linear_solve.proofs.row.scale.Goals as goal

pub returns : goal.returns
unfolding component
returns c = λ k.
    elim (cases_lt k (length c.args.row.now)) [
      | inl l ↦ c.loop-x.invariant.below k (omega arith)
      | inr l ↦
          let long : length c.loop-x.row ≡ length c.args.row.now = c.loop-x.auto.row in
          get_or_past c.loop-x.row k 0 (omega arith) ∙ sym (ap (λ x. x ⊗ c.args.factor) (get_or_past c.args.row.now k 0 l) ∙ zero_mul _)
    ]
