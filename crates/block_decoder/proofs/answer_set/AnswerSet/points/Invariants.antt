use Rattle.std.proofs.Common.{◌≡◌, take}
use Rattle.block_decoder.specs.Narrowing.{points_of}
use Rattle.block_decoder.proofs.answer_set.AnswerSet.points.Given as goal

abbrev pub invariant-loop-answer : goal.invariant-loop-answer
invariant-loop-answer l = l.points.items ≡ points_of (take l.answer-index l.answer-items) l.column
