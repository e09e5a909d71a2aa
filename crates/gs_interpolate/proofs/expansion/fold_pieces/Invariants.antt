use Rattle.std.proofs.Common.{◌≡◌, ℕ, ◌*◌, ◌<◌, get_or, drop}
use Rattle.gs_interpolate.specs.Expansion.{folded}
use Rattle.gs_interpolate.proofs.expansion.fold_pieces.Given as goal

abbrev pub invariant-loop-b : goal.invariant-loop-b
invariant-loop-b l = (k : ℕ) → k < l.size → get_or l.sums k 0 ≡ folded l.size l.products (drop (l.b * l.size) l.row) k
