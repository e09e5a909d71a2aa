use Rattle.std.proofs.Common.{◌≡◌, ℕ, List, ◌<◌, ◌≤◌, length}
use Rattle.linear_solve.specs.Matrix.{entry}
use Rattle.linear_solve.specs.Kernel.{inner}
use Rattle.linear_solve.specs.Echelon.{columns_of, rows_of, IsEchelon, SendToZero}
use Rattle.linear_solve.proofs.kernel_vector.Given as goal

abbrev pub invariant-loop-i : goal.invariant-loop-i
invariant-loop-i l = record {
  echelon : IsEchelon (columns_of l.pivots.items) (rows_of l.pivots.items) l.table.cols;
  few : length (rows_of l.pivots.items) ≤ l.i;
  sends_to_zero : (v : List ℕ) → SendToZero (rows_of l.pivots.items) l.table.cols v → (j : ℕ) → j < l.i → inner (entry l.table j) v l.table.cols ≡ 0;
}
