use Rattle.std.proofs.Common.{◌≡◌, ◌≢◌, ◌⊎◌, ℕ, ◌+◌, ◌<◌}
use Rattle.linear_solve.specs.Matrix.{entry}
use Rattle.gs_interpolate.specs.Conditions.{derivative_of}
use Rattle.gs_interpolate.proofs.elimination.write_row.Given as goal

abbrev pub invariant-loop-i : goal.invariant-loop-i
invariant-loop-i l = record {
  height : l.table.rows ≡ l.initial.table.rows;
  width : l.table.cols ≡ l.initial.table.cols;
  written : (i : ℕ) → i < l.i → entry l.table l.r (l.column + i) ≡ derivative_of l.condition i l.j;
  kept : (s k : ℕ) → k < l.initial.table.cols → (s ≢ l.r) ⊎ (k < l.column) → entry l.table s k ≡ entry l.initial.table s k;
}
