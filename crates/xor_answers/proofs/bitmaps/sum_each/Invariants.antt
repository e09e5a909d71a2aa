use Rattle.std.proofs.Common.{◌≡◌, ℕ, ◌+◌, ◌*◌, ◌<◌, slice_index}
use Rattle.gf256.specs.Sums.{run_sum}
use Rattle.row_workers.specs.Pieces.{piece}
use Rattle.chor_xor.specs.Chosen.{given}
use Rattle.xor_answers.proofs.bitmaps.sum_each.Given as goal

abbrev pub invariant-loop-v : goal.invariant-loop-v
invariant-loop-v l = (v c : ℕ) → v < l.v → c < l.width
    → slice_index l.sums (v * l.width + c) ≡ run_sum (given (piece l.size l.bitmaps v) l.matrix.rows c) l.from l.to
