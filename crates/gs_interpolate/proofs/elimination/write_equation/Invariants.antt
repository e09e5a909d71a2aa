use Rattle.std.proofs.Common.{◌≡◌, ◌≢◌, ℕ, ◌+◌, ◌<◌, get_or}
use Rattle.linear_solve.specs.Matrix.{entry}
use Rattle.gs_interpolate.specs.Conditions.{derivative_of}
use Rattle.gs_interpolate.specs.Layout.{start}
use Rattle.gs_interpolate.proofs.elimination.write_equation.Given as goal

abbrev pub invariant-loop-j : goal.invariant-loop-j
invariant-loop-j l = record {
  column : l.column ≡ start l.lengths l.j;
  height : l.table.rows ≡ l.initial.table.rows;
  width : l.table.cols ≡ l.initial.table.cols;
  written : (j i : ℕ) → j < l.j → i < get_or l.lengths j 0 → entry l.table l.r (start l.lengths j + i) ≡ derivative_of l.condition i j;
  kept : (s k : ℕ) → s ≢ l.r → k < l.initial.table.cols → entry l.table s k ≡ entry l.initial.table s k;
}
