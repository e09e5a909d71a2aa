use Rattle.std.proofs.Common.{◌≡◌, ℕ, ◌+◌, ◌*◌, ◌<◌, slice_index}
use Rattle.gf256.specs.Sums.{sum_to}
use Rattle.chor_xor.proofs.bitmap.sum_pieces.Given as goal

abbrev pub invariant-loop-i : goal.invariant-loop-i
invariant-loop-i l = (k : ℕ) → k < l.size → slice_index l.out k ≡ sum_to (λ j. slice_index l.coins (j * l.size + k)) l.i
