use Rattle.std.proofs.Common.{if◌then◌else◌, get_or, sym, ap, ap₂, ◌∙◌, arith}
use Rattle.gf256.specs.Field.{◌⊕◌, ◌⊗◌}
use Rattle.gf256.specs.Polynomial.{coef}
use Rattle.bi_poly.proofs.Derivatives.{derivative_to-start, derivative_to-odd, derivative_to-even, derivative_to-all, power-start, power-next}
use Rattle.bi_poly.proofs.row.derivative.Goals as goal
use Rattle.bi_poly.proofs.row.derivative.Goals.{then-is_odd_binomial, else-is_odd_binomial}

pub loop-i-init : goal.loop-i-init
loop-i-init c = record {
  from = omega arith;
  sum = sym (derivative_to-start c.args.p.now c.args.a c.args.u);
  power = sym (power-start c.args.a c.args.u);
}

pub loop-i-preserved : goal.loop-i-preserved
unfolding coef
loop-i-preserved c =
    let p = c.args.p.now in
    let a = c.args.a in
    let u = c.args.u in
    let i = c.loop-i.i in
    record {
      from = omega arith;
      sum = elim c.if-is_odd_binomial.branch [
        | then-is_odd_binomial w ↦
            w.sum-is ∙ w.add-sum.ensures
            ∙ ap₂ ◌⊕◌ c.loop-i.invariant.sum (w.mul.ensures ∙ ap (◌⊗◌ (get_or p i 0)) c.loop-i.invariant.power)
            ∙ sym (derivative_to-odd p a u i (c.is_odd_binomial.ensures ∙ ap (λ t. if t then 1 else 0) w.if-is_odd_binomial.true))
        | else-is_odd_binomial w ↦
            w.sum-is ∙ c.loop-i.invariant.sum
            ∙ sym (derivative_to-even p a u i (c.is_odd_binomial.ensures ∙ ap (λ t. if t then 1 else 0) w.if-is_odd_binomial.false))
      ];
      power = c.mul-power.ensures ∙ ap (λ x. x ⊗ a) c.loop-i.invariant.power ∙ sym (power-next a i u c.loop-i.invariant.from);
    }

pub returns : goal.returns
returns c = c.loop-i.invariant.sum ∙ derivative_to-all c.args.p.now c.args.a c.args.u c.loop-i.i (omega arith)
