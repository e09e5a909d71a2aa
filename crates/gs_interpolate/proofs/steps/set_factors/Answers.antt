use Rattle.std.proofs.Common.{get_or, ap₂, ◌∙◌}
use Rattle.gf256.specs.Field.{◌⊕◌, ◌⊗◌}
use Rattle.gf256.proofs.Xor.{zero_add}
use Rattle.gf256.proofs.FieldLaws.{mul_comm}
use Rattle.gs_interpolate.proofs.steps.set_factors.Goals as goal

pub returns : goal.returns
returns c = λ j.
    let value = get_or c.args.values.now j 0 in
    c.add_scaled_row.ensures j ∙ ap₂ (λ x y. x ⊕ y ⊗ value) (c.clear.ensures j) c.inv.ensures.inverse
    ∙ zero_add _ ∙ mul_comm _ value
