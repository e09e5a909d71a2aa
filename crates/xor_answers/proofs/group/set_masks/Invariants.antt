use Rattle.std.proofs.Common.{◌≡◌, ℕ, ◌*◌, ◌<◌, slice_index}
use Rattle.xor_answers.proofs.MaskSums.{mask_at}
use Rattle.xor_answers.proofs.group.set_masks.Given as goal

abbrev pub invariant-loop-v : goal.invariant-loop-v
invariant-loop-v l = (p : ℕ) → p < 128 * l.v → slice_index l.masks p ≡ mask_at l.bitmaps l.size l.j l.apart p
