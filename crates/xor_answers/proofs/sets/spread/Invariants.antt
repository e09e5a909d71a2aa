use Rattle.std.proofs.Common.{◌≡◌, ℕ, ◌+◌, ◌-◌, ◌*◌, ◌<◌, slice_index}
use Rattle.xor_answers.specs.Patterns.{spread_at}
use Rattle.xor_answers.proofs.sets.spread.Given as goal

abbrev pub invariant-loop-v : goal.invariant-loop-v
invariant-loop-v l = (u k : ℕ) → u < l.v → k < l.width
    → slice_index l.sums (u * l.width + k) ≡ spread_at l.patterns l.width (l.count - 1 - u) k
