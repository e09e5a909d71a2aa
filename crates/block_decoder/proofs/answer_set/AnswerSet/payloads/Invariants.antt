use Rattle.std.proofs.Common.{◌≡◌, map, take}
use Rattle.block_decoder.proofs.answer_set.AnswerSet.payloads.Given as goal

abbrev pub invariant-loop-answer : goal.invariant-loop-answer
invariant-loop-answer l = map (λ payload. payload.now) l.payloads.items ≡ map (λ a. a.payload) (take l.answer-index l.answer-items)
