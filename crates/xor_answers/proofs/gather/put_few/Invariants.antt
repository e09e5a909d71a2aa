use Rattle.std.proofs.Common.{◌≡◌, ℕ, slice_index}
use Rattle.gf256.specs.Sums.{sum_to}
use Rattle.xor_answers.specs.Waiting.{column}
use Rattle.xor_answers.proofs.gather.put_few.Given as goal

abbrev pub invariant-loop-i : goal.invariant-loop-i
invariant-loop-i l = (k : ℕ) → slice_index l.sum k ≡ sum_to (λ i. column l.matrix.rows k (slice_index l.few.rows i)) l.i
