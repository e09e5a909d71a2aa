use Rattle.std.proofs.Common.{get_or, sym, ap, ◌∙◌}
use Rattle.gf256.specs.Field.{◌⊕◌, ◌⊗◌}
use Rattle.gf256.proofs.Xor.{add_zero}
use Rattle.gf256.proofs.FieldLaws.{zero_mul}
use Rattle.gs_interpolate.proofs.family.add_multiple.Goals as goal

pub returns-then-own-eq0 : goal.returns-then-own-eq0
returns-then-own-eq0 c = λ g.
    let old = get_or c.args.cell.now g 0 in
    let factor = get_or c.args.factors.now g 0 in
    sym (ap (λ x. old ⊕ x ⊗ factor) c.if-own-eq0.true ∙ ap (◌⊕◌ old) (zero_mul factor) ∙ add_zero old)
