use Rattle.std.proofs.Common.{sym, ap}
use Rattle.server_product.specs.Gathered.{few_sum, held_sum}
use Rattle.server_product.proofs.gather.few_of.Goals as goal

pub returns-in-None-clause-sum : goal.returns-in-None-clause-sum
unfolding few_sum held_sum
returns-in-None-clause-sum c = λ query rows k. sym (ap (held_sum query rows k) c.in-None.is)

pub returns-in-Some-clause-sum : goal.returns-in-Some-clause-sum
unfolding few_sum held_sum
returns-in-Some-clause-sum c = λ query rows k. sym (ap (held_sum query rows k) c.in-Some.is)
