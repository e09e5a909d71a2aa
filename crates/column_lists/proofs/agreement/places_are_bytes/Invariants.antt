use Rattle.std.proofs.Common.{ℕ, ◌<◌, get_or}
use Rattle.column_lists.proofs.agreement.places_are_bytes.Given as goal

abbrev pub invariant-loop-i : goal.invariant-loop-i
invariant-loop-i l = (k : ℕ) (d : ℕ × ℕ) → k < l.i → (get_or l.points k d).0 < 256
