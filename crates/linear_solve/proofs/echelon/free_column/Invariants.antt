use Rattle.std.proofs.Common.{◌≡◌, ℕ, ◌+◌, ◌<◌, ◌≤◌, length, get_or, sum}
use Rattle.linear_solve.specs.Echelon.{columns_of}
use Rattle.linear_solve.proofs.echelon.free_column.Given as goal

abbrev pub invariant-loop-pivot : goal.invariant-loop-pivot
invariant-loop-pivot l = record {
  long : length l.is_free.items ≡ l.width;
  many : l.width ≤ sum l.is_free.items + l.pivot-index;
  small : (k : ℕ) → get_or l.is_free.items k 0 ≤ 1;
  cleared : (s : ℕ) → s < l.pivot-index → get_or l.is_free.items (get_or (columns_of l.pivots) s 0) 0 ≡ 0;
}
