use Rattle.std.proofs.Common.{ℕ, ◌<◌, get_or}
use Rattle.algebra_tests.proofs.interpolants.is_ascending.Given as goal

abbrev pub invariant-loop-i : goal.invariant-loop-i
invariant-loop-i l = (i j : ℕ) → i < j → j < l.i → (get_or l.points i (0, 0)).0 < (get_or l.points j (0, 0)).0
