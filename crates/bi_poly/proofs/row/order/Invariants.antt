use Rattle.std.proofs.Common.{◌≡◌, ◌<◌, ℕ, get_or}
use Rattle.bi_poly.proofs.row.order.Given as goal

abbrev pub invariant-loop-i : goal.invariant-loop-i
invariant-loop-i l = (e : ℕ) → e < l.i → get_or l.p e 0 ≡ 0
