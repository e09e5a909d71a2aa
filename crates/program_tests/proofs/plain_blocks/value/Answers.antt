use Rattle.std.proofs.Common.{◌≡◌, length, refl, ap, ap₂, sym, ◌∙◌, arith, add-one}
use Rattle.gf256.specs.Field.{◌⊕◌, ◌⊗◌, power}
use Rattle.gf256.specs.Sums.{sum_to}
use Rattle.gf256.specs.Polynomial.{coef, val}
use Rattle.program_tests.proofs.plain_blocks.value.Goals as goal

pub loop-power-init : goal.loop-power-init
unfolding sum_to
loop-power-init c = refl

pub loop-power-preserved : goal.loop-power-preserved
unfolding sum_to coef
loop-power-preserved c =
    c.add-sum.ensures ∙ ap₂ ◌⊕◌ c.loop-power.invariant (c.mul.ensures ∙ ap (◌⊗◌ (coef c.args.polynomial.now c.loop-power.power)) c.pow.ensures)
    ∙ ap (sum_to (λ e. coef c.args.polynomial.now e ⊗ power c.args.at e)) (sym (add-one c.loop-power.power))

pub returns : goal.returns
unfolding val
returns c =
    let whole : c.loop-power.power ≡ length c.args.polynomial.now = omega arith in
    c.loop-power.invariant ∙ ap (sum_to (λ e. coef c.args.polynomial.now e ⊗ power c.args.at e)) whole
