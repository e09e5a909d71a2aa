use Rattle.xor_answers.proofs.WaitingSums.{same-count}
use Rattle.xor_answers.proofs.gather.none_waiting.Goals as goal

pub returns : goal.returns
returns c = λ p. same-count 256 p c.none.result c.none.ensures
