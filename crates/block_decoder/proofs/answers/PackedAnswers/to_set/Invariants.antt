use Rattle.std.proofs.Common.{◌≡◌, take}
use Rattle.block_decoder.proofs.answers.PackedAnswers.to_set.Given as goal

abbrev pub invariant-loop-place : goal.invariant-loop-place
invariant-loop-place l = l.all ≡ take l.place l.self
