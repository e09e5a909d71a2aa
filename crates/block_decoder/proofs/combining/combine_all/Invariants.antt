use Rattle.std.proofs.Common.{◌+◌}
use Rattle.block_decoder.proofs.Combined.{HasCombined}
use Rattle.block_decoder.proofs.combining.combine_all.Given as goal

-- the answers of the servers up to this place are counted and summed
abbrev pub invariant-loop-place : goal.invariant-loop-place
invariant-loop-place l = HasCombined l.session l.sum.items l.k (l.place + 1)
