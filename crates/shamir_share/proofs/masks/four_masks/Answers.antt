use Rattle.std.proofs.Common.{◌≡◌, ℕ, ◌+◌, ◌-◌, subst, arith}
use Rattle.gf256.specs.Field.{◌⊕◌}
use Rattle.shamir_share.proofs.Horner.{HasValues, values_none, values_next, values_all}
use Rattle.shamir_share.proofs.masks.four_masks.Goals as goal

pub loop-e-init : goal.loop-e-init
loop-e-init c = values_none c.args.rows.now c.args.t c.args.products.now c.requires

pub loop-e-preserved : goal.loop-e-preserved
unfolding ◌⊕◌
loop-e-preserved c =
    let rows = c.args.rows.now in
    let t = c.args.t in
    let a = c.args.products.now in
    let values = c.loop-e.values in
    let e = c.loop-e.e - 1 in
    let up : c.loop-e.e ≡ e + 1 = omega arith in
    values_next rows t e a values _ _ _ _ c.requires (λ i. (c.type_inv.rows i).fits) (omega arith) (subst (λ (k : ℕ). HasValues rows t k a values) up c.loop-e.invariant)
    c.times.ensures c.times-in-loop-e.ensures c.times-in-loop-e-2.ensures c.times-in-loop-e-3.ensures

pub returns : goal.returns
returns c =
    let none : c.loop-e.e ≡ 0 = omega arith in
    values_all c.args.rows.now c.args.t c.args.products.now c.loop-e.values (subst (λ (k : ℕ). HasValues c.args.rows.now c.args.t k c.args.products.now c.loop-e.values) none c.loop-e.invariant)
