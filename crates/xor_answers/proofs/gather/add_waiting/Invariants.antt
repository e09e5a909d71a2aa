use Rattle.std.proofs.Common.{◌≡◌, ℕ, ◌+◌, ◌-◌, ◌*◌, ◌<◌, slice_index}
use Rattle.gf256.specs.Field.{◌⊕◌}
use Rattle.gf256.specs.Sums.{sum_to}
use Rattle.xor_answers.specs.Waiting.{from_waiting}
use Rattle.xor_answers.proofs.gather.add_waiting.Given as goal

abbrev pub invariant-loop-pattern : goal.invariant-loop-pattern
invariant-loop-pattern l = (v k : ℕ) → v < l.count → k < l.matrix.width
    → slice_index l.sums (v * l.matrix.width + k)
    ≡ slice_index l.fn.sums (v * l.matrix.width + k) ⊕ sum_to (from_waiting l.matrix.rows l.waiting (l.count - 1 - v) k) l.pattern
