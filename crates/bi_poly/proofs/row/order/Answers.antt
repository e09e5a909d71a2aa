use Rattle.std.proofs.Common.{rules, length, inl, inr, arith}
use Rattle.std.proofs.lemmas.Bool.{cases_lt}
use Rattle.std.proofs.lemmas.List.{get_or_past}
use Rattle.gf256.specs.Polynomial.{coef}
use Rattle.bi_poly.proofs.row.order.Goals as goal

pub returns-then-p-i-ne0 : goal.returns-then-p-i-ne0
unfolding coef
returns-then-p-i-ne0 c = record {
  reached = search rules;
  lowest = c.loop-i.invariant;
}

pub returns : goal.returns
unfolding coef
returns c = λ e.
    elim (cases_lt e (length c.args.p.now)) [
      | inl l ↦ c.loop-i.invariant e (omega arith)
      | inr l ↦ get_or_past c.args.p.now e 0 l
    ]
