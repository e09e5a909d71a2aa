use Rattle.std.proofs.Common.{◌≡◌, ℕ, ◌<◌, List, length, get_or}
use Rattle.linear_solve.specs.Kernel.{component, inner}
use Rattle.linear_solve.specs.Echelon.{columns_of, rows_of, SendToZero}
use Rattle.linear_solve.proofs.echelon.clear.Given as goal

abbrev pub invariant-loop-pivot : goal.invariant-loop-pivot
invariant-loop-pivot l = record {
  same : (v : List ℕ) → SendToZero (rows_of l.pivots) (length l.initial.row) v
      → inner (component l.row) v (length l.initial.row) ≡ inner (component l.initial.row) v (length l.initial.row);
  cleared : (s : ℕ) → s < l.pivot-index → component l.row (get_or (columns_of l.pivots) s 0) ≡ 0;
}
