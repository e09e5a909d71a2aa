use Rattle.std.proofs.Common.{ℕ, ◌<◌, ◌≤◌, get_or}
use Rattle.bench.proofs.column.are_places.Given as goal

abbrev pub invariant-loop-i : goal.invariant-loop-i
invariant-loop-i l = record {
  ascend : (i j : ℕ) → i < j → j < l.i → (get_or l.points i (0, 0)).0 < (get_or l.points j (0, 0)).0;
  positive : (i : ℕ) → i < l.i → 0 < (get_or l.points i (0, 0)).0;
  last : (i : ℕ) → i < l.i → (get_or l.points i (0, 0)).0 ≤ l.last;
}
