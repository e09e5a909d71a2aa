use Rattle.std.proofs.Common.{◌≡◌, ℕ, ◌<◌, slice_index}
use Rattle.gf256.specs.Sums.{sum_to}
use Rattle.xor_answers.specs.Patterns.{from_pattern}
use Rattle.xor_answers.proofs.sets.spread_to.Given as goal

abbrev pub invariant-loop-pattern : goal.invariant-loop-pattern
invariant-loop-pattern l = (k : ℕ) → k < l.width → slice_index l.sums k ≡ sum_to (from_pattern l.patterns l.width l.place k) l.pattern
