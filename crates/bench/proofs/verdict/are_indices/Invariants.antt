use Rattle.std.proofs.Common.{◌≡◌, ℕ, ◌+◌, ◌<◌, get_or}
use Rattle.bench.proofs.verdict.are_indices.Given as goal

abbrev pub invariant-loop-i : goal.invariant-loop-i
invariant-loop-i l = record {
  ascend : (k : ℕ) → k + 1 < l.i → get_or l.indices k 0 < get_or l.indices (k + 1) 0;
  positive : (k : ℕ) → k < l.i → 0 < get_or l.indices k 0;
  last : (k : ℕ) → k + 1 ≡ l.i → get_or l.indices k 0 ≡ l.last;
}
