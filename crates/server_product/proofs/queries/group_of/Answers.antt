use Rattle.std.proofs.Common.{◌≤◌, ◌*◌, ◌/◌, subst, arith}
use Rattle.std.proofs.Math.Nat.{div-mul-le_self}
use Rattle.std.proofs.lemmas.Nat.{le-div}
use Rattle.server_product.proofs.queries.group_of.Goals as goal

pub div_ceil-requires : goal.div_ceil-requires
div_ceil-requires c = omega arith

pub nonzero_div-result : goal.nonzero_div-result
nonzero_div-result c = omega arith

pub returns-then-width-lt16-clause-fits : goal.returns-then-width-lt16-clause-fits
returns-then-width-lt16-clause-fits c = omega arith

pub returns-else-width-lt16-clause-some : goal.returns-else-width-lt16-clause-some
returns-else-width-lt16-clause-some c = le-div 1 4096 c.div_ceil.result (omega (arith, c.div_ceil.ensures)) (omega (arith, c.div_ceil.ensures))

pub returns-else-width-lt16-clause-fits : goal.returns-else-width-lt16-clause-fits
returns-else-width-lt16-clause-fits c = subst (λ k. 4096 / c.div_ceil.result * k ≤ 4096) c.div_ceil.ensures (div-mul-le_self 4096 c.div_ceil.result)

pub returns-else-width-lt16-clause-wide : goal.returns-else-width-lt16-clause-wide
returns-else-width-lt16-clause-wide c = λ l. c.if-width-lt16.false
