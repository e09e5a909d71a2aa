use Rattle.std.proofs.Common.{ap₂, ◌∙◌, inl, inr}
use Rattle.gf256.specs.Field.{◌⊗◌}
use Rattle.bi_poly.proofs.Binomials.{binomial_parity-at_most}
use Rattle.gs_interpolate.proofs.Conditions.{derivative_of-even, derivative_of-odd}
use Rattle.gs_interpolate.proofs.condition.Condition.derivative_of.Goals as goal
use Rattle.gs_interpolate.proofs.condition.Condition.derivative_of.Goals.{then-not-is_odd_binomial-via-then-not-is_odd_binomial, then-not-is_odd_binomial-via-else-not-is_odd_binomial+then-not-is_odd_binomial-2}

pub returns-then-not-is_odd_binomial : goal.returns-then-not-is_odd_binomial
returns-then-not-is_odd_binomial c =
    derivative_of-even c.args.self.now c.args.i c.args.j
    elim c.then-not-is_odd_binomial.branch [
      | then-not-is_odd_binomial-via-then-not-is_odd_binomial w ↦ inl w.if-not-is_odd_binomial.ensures
      | then-not-is_odd_binomial-via-else-not-is_odd_binomial+then-not-is_odd_binomial-2 w ↦ inr w.if-not-is_odd_binomial-2.ensures
    ]

pub overflow_sub-i : goal.overflow_sub-i
overflow_sub-i c = binomial_parity-at_most c.args.i c.args.self.now.u c.if-not-is_odd_binomial.ensures

pub overflow_sub-j : goal.overflow_sub-j
overflow_sub-j c = binomial_parity-at_most c.args.j c.args.self.now.v c.if-not-is_odd_binomial-2.ensures

pub returns : goal.returns
returns c =
    c.mul.ensures ∙ ap₂ ◌⊗◌ c.pow.ensures c.pow-2.ensures
    ∙ derivative_of-odd c.args.self.now c.args.i c.args.j c.if-not-is_odd_binomial.ensures c.if-not-is_odd_binomial-2.ensures
