use Rattle.std.proofs.Common.{rules, arith}
use Rattle.gf256.specs.Polynomial.{coef}
use Rattle.bi_poly.proofs.row.degree.Goals as goal

pub returns-then-p-i-ne0 : goal.returns-then-p-i-ne0
unfolding coef
returns-then-p-i-ne0 c = record {
  reached = search rules;
  highest = λ e l. c.loop-i.invariant e (omega arith);
}

pub returns : goal.returns
unfolding coef
returns c = λ e. c.loop-i.invariant e (omega arith)
