use Rattle.std.proofs.Common.{◌≡◌, ℕ, ◌<◌, slice_index}
use Rattle.gf256.specs.Field.{◌⊕◌}
use Rattle.xor_answers.specs.Waiting.{four_sum}
use Rattle.xor_answers.proofs.gather.put_eight.Given as goal

abbrev pub invariant-loop-i : goal.invariant-loop-i
invariant-loop-i l = (k : ℕ) → k < l.i → slice_index l.sum k ≡ four_sum l.first k ⊕ four_sum l.second k
