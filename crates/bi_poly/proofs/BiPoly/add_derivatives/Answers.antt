use Rattle.std.proofs.Common.{if◌then◌else◌, length, get_or, refl, sym, ap, ap₂, ◌∙◌, arith}
use Rattle.std.proofs.lemmas.List.{length-map}
use Rattle.gf256.specs.Field.{◌⊕◌, ◌⊗◌}
use Rattle.gf256.specs.Polynomial.{coef}
use Rattle.gf256.proofs.Xor.{add_zero}
use Rattle.bi_poly.specs.Rows.{column}
use Rattle.bi_poly.proofs.Derivatives.{taylor-derivative, derivative_to-start, derivative_to-even, derivative_to-all, power-start, power-next}
use Rattle.bi_poly.proofs.Shift.{derivative-row_odd}
use Rattle.bi_poly.proofs.BiPoly.add_derivatives.Goals as goal
use Rattle.bi_poly.proofs.BiPoly.add_derivatives.Goals.{then-is_odd_binomial, else-is_odd_binomial}

pub loop-k-init : goal.loop-k-init
loop-k-init c = record {
  from = omega arith;
  size = refl;
  sums = λ i. sym (ap (◌⊕◌ (get_or c.args.sums.now i 0)) (derivative_to-start (column c.args.self.now i) c.args.gamma c.args.j) ∙ add_zero _);
  power = sym (power-start c.args.gamma c.args.j);
}

pub loop-k-preserved : goal.loop-k-preserved
unfolding coef
loop-k-preserved c =
    let q = c.args.self.now in
    let gamma = c.args.gamma in
    let j = c.args.j in
    let k = c.loop-k.k in
    let before = c.loop-k.sums in
    let parity = c.is_odd_binomial.ensures in
    record {
      from = omega arith;
      size = elim c.if-is_odd_binomial.branch [
        | then-is_odd_binomial w ↦ let e = w.add_scaled.ensures.size in ap length w.sums-is ∙ e ∙ c.loop-k.invariant.size
        | else-is_odd_binomial w ↦ ap length w.sums-is ∙ c.loop-k.invariant.size
      ];
      sums = λ i.
          elim c.if-is_odd_binomial.branch [
            | then-is_odd_binomial w ↦
                ap (λ xs. get_or xs i 0) w.sums-is ∙ w.add_scaled.ensures.each i
                ∙ ap₂ (λ x r. x ⊕ c.loop-k.power ⊗ coef r i) (c.loop-k.invariant.sums i) w.row.ensures
                ∙ sym (derivative-row_odd q gamma j k i (get_or c.args.sums.now i 0) c.loop-k.power (omega arith)
                (parity ∙ ap (λ t. if t then 1 else 0) w.if-is_odd_binomial.true) c.loop-k.invariant.power)
            | else-is_odd_binomial w ↦
                ap (λ xs. get_or xs i 0) w.sums-is ∙ c.loop-k.invariant.sums i
                ∙ ap (◌⊕◌ (get_or c.args.sums.now i 0))
                (sym (derivative_to-even (column q i) gamma j k (parity ∙ ap (λ t. if t then 1 else 0) w.if-is_odd_binomial.false)))
          ];
      power = c.mul-power.ensures ∙ ap (λ x. x ⊗ gamma) c.loop-k.invariant.power ∙ sym (power-next gamma k j c.loop-k.invariant.from);
    }

pub returns : goal.returns
returns c = λ i.
    let q = c.args.self.now in
    let size = length-map q (λ r. coef r i) in
    c.loop-k.invariant.sums i
    ∙ ap (◌⊕◌ (get_or c.args.sums.now i 0))
    (derivative_to-all (column q i) c.args.gamma c.args.j c.loop-k.k (omega arith) ∙ sym (taylor-derivative (column q i) c.args.gamma c.args.j))
