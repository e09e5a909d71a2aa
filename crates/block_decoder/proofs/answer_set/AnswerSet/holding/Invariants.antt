use Rattle.std.proofs.Common.{◌≡◌, take}
use Rattle.std.specs.List.{filter}
use Rattle.block_decoder.specs.Narrowing.{holds_at}
use Rattle.block_decoder.proofs.answer_set.AnswerSet.holding.Given as goal

abbrev pub invariant-loop-answer : goal.invariant-loop-answer
invariant-loop-answer l = l.kept ≡ filter (holds_at l.polynomial l.column) (take l.answer-index l.answer-items)
