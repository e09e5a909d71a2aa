use Rattle.xor_answers.proofs.WaitingSums.{IsGiven}
use Rattle.xor_answers.proofs.gather.add_to_asked.Given as goal

abbrev pub invariant-loop-v : goal.invariant-loop-v
invariant-loop-v l = IsGiven l.sums l.fn.sums l.row l.width l.count l.pattern l.v
