use Rattle.std.proofs.Common.{if◌then◌else◌, sym, ap, ap₂, ◌∙◌, arith}
use Rattle.gf256.specs.Field.{◌⊕◌, ◌⊗◌}
use Rattle.bi_poly.specs.Hasse.{derivative}
use Rattle.bi_poly.proofs.Derivatives.{derivative_to-start, derivative_to-even, power-start, power-next}
use Rattle.bi_poly.proofs.Hasse.{derivatives, hasse-odd, hasse-all}
use Rattle.bi_poly.proofs.BiPoly.hasse.Goals as goal
use Rattle.bi_poly.proofs.BiPoly.hasse.Goals.{then-is_odd_binomial, else-is_odd_binomial}

pub loop-j-init : goal.loop-j-init
loop-j-init c = record {
  from = omega arith;
  sum = sym (derivative_to-start (derivatives c.args.self.now c.args.a c.args.u) c.args.b c.args.v);
  power = sym (power-start c.args.b c.args.v);
}

pub loop-j-preserved : goal.loop-j-preserved
loop-j-preserved c =
    let q = c.args.self.now in
    let a = c.args.a in
    let b = c.args.b in
    let u = c.args.u in
    let v = c.args.v in
    let j = c.loop-j.j in
    record {
      from = omega arith;
      sum = elim c.if-is_odd_binomial.branch [
        | then-is_odd_binomial w ↦
            w.sum-is ∙ w.add-sum.ensures
            ∙ ap₂ ◌⊕◌ c.loop-j.invariant.sum
            (w.mul.ensures ∙ ap₂ ◌⊗◌ (w.derivative-derivative.ensures ∙ ap (λ r. derivative r a u) w.row.ensures) c.loop-j.invariant.power)
            ∙ sym (hasse-odd q u v a b j (omega arith) (c.is_odd_binomial.ensures ∙ ap (λ t. if t then 1 else 0) w.if-is_odd_binomial.true))
        | else-is_odd_binomial w ↦
            w.sum-is ∙ c.loop-j.invariant.sum
            ∙ sym (derivative_to-even (derivatives q a u) b v j (c.is_odd_binomial.ensures ∙ ap (λ t. if t then 1 else 0) w.if-is_odd_binomial.false))
      ];
      power = c.mul-power.ensures ∙ ap (λ x. x ⊗ b) c.loop-j.invariant.power ∙ sym (power-next b j v c.loop-j.invariant.from);
    }

pub returns : goal.returns
returns c =
    c.loop-j.invariant.sum
    ∙ hasse-all c.args.self.now c.args.u c.args.v c.args.a c.args.b c.loop-j.j (omega arith)
