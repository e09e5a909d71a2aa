use Rattle.std.proofs.Common.{◌+◌}
use Rattle.block_decoder.proofs.Collected.{HasCollected}
use Rattle.block_decoder.proofs.judging.usable_answers.Given as goal

-- the answers of the servers up to this place are collected
abbrev pub invariant-loop-place : goal.invariant-loop-place
invariant-loop-place l = HasCollected l.session l.usable (l.place + 1)
