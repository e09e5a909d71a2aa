use Rattle.std.proofs.Common.{ap, ◌∙◌, arith, ◌≡◌, ◌+◌, ◌-◌}
use Rattle.gf256.specs.Field.{◌⊕◌, ◌⊗◌}
use Rattle.gf256.specs.Polynomial.{val}
use Rattle.std.proofs.Common.{drop, length, le_refl}
use Rattle.shamir_share.proofs.Horner.{horner_none, horner_next}
use Rattle.shamir_share.proofs.masks.mask.Goals as goal

pub loop-e-init : goal.loop-e-init
loop-e-init c = horner_none c.args.row.now (length c.args.row.now) c.args.products.now (le_refl _)

pub loop-e-preserved : goal.loop-e-preserved
unfolding ◌⊕◌
loop-e-preserved c =
    let a = c.args.products.now in
    let e = c.loop-e.e - 1 in
    let up : c.loop-e.e ≡ e + 1 = omega arith in
    horner_next c.args.row.now e a c.loop-e.value c.times-value.result (omega arith) (c.type_inv.row e).fits (c.loop-e.invariant ∙ ap (λ k. a ⊗ val (drop k c.args.row.now) a) up) c.times-value.ensures
