use Rattle.std.proofs.Common.{◌≡◌, ℕ, ◌<◌, ◌≤◌, length, get_or}
use Rattle.linear_solve.specs.Kernel.{component, inner}
use Rattle.linear_solve.specs.Echelon.{columns_of, rows_of, row_at, IsFree}
use Rattle.linear_solve.proofs.echelon.solve_back.Given as goal

abbrev pub invariant-loop-t : goal.invariant-loop-t
invariant-loop-t l = record {
  bytes : (k : ℕ) → component l.v k < 256;
  sent_to_zero : (s : ℕ) → l.t ≤ s → s < length l.pivots → inner (component (row_at (rows_of l.pivots) s)) l.v (length l.initial.v) ≡ 0;
  clear : (s : ℕ) → s < l.t → component l.v (get_or (columns_of l.pivots) s 0) ≡ 0;
  kept : (k : ℕ) → IsFree (columns_of l.pivots) (length l.initial.v) k → component l.v k ≡ component l.initial.v k;
}
