use Rattle.std.proofs.Common.{◌≡◌, ◌≤◌, ℕ, get_or}
use Rattle.bi_poly.proofs.row.degree.Given as goal

abbrev pub invariant-loop-i : goal.invariant-loop-i
invariant-loop-i l = (e : ℕ) → l.i ≤ e → get_or l.p e 0 ≡ 0
