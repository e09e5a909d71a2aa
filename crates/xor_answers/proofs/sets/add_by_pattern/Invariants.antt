use Rattle.std.proofs.Common.{◌≡◌, ℕ, ◌-◌, ◌<◌}
use Rattle.gf256.specs.Sums.{run_sum}
use Rattle.row_workers.specs.Pieces.{piece}
use Rattle.chor_xor.specs.Chosen.{given}
use Rattle.xor_answers.specs.Patterns.{spread_at}
use Rattle.xor_answers.proofs.sets.add_by_pattern.Given as goal

abbrev pub invariant-loop-j : goal.invariant-loop-j
invariant-loop-j l = (v k : ℕ) → v < l.count → k < l.matrix.width
    → spread_at l.patterns l.matrix.width (l.count - 1 - v) k ≡ run_sum (given (piece l.size l.bitmaps v) l.matrix.rows k) l.from l.j
