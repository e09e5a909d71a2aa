use Rattle.std.proofs.Common.{arith}
use Rattle.xor_answers.specs.Waiting.{few_sum}
use Rattle.xor_answers.proofs.WaitingSums.{sum-with, row-with}
use Rattle.xor_answers.proofs.gather.with.Goals as goal

pub returns-clause-rows : goal.returns-clause-rows
returns-clause-rows c = λ n are small. record {
  most = omega (arith);
  rows = row-with c.args.few.rows c.args.few.count c.args.j n (omega arith) small are.rows;
}

pub returns-clause-sum : goal.returns-clause-sum
unfolding few_sum
returns-clause-sum c = λ rows k. sum-with rows c.args.few.rows c.args.few.count c.args.j k (omega arith)

pub overflow_cast-more : goal.overflow_cast-more
overflow_cast-more c = omega arith

pub offset_bounds-more-few : goal.offset_bounds-more-few
offset_bounds-more-few c = omega arith

pub bounds-more-few : goal.bounds-more-few
bounds-more-few c = omega arith

pub overflow_add-more : goal.overflow_add-more
overflow_add-more c = omega arith
