use Rattle.std.proofs.Common.{◌≡◌, length, All}
use Rattle.column_runs.proofs.run.rows_of_zeros.Given as goal

-- the rows so far
abbrev pub invariant-loop-row : goal.invariant-loop-row
invariant-loop-row l = record {
  count : length l.rows.items ≡ l._row;
  sizes : All (λ row. length row ≡ l.columns) l.rows.items;
}
