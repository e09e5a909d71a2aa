use Rattle.std.proofs.Common.{◌≤◌, ◌<◌, ℕ, length}
use Rattle.column_runs.specs.Rows.{lists_of, rows_of}
use Rattle.column_runs.specs.Tile.{tile, Agree}
use Rattle.column_runs.proofs.tile.agreeing.Given as goal

-- in so many columns the rows so far agree, and in the next one they don't
abbrev pub invariant-loop-k : goal.invariant-loop-k
invariant-loop-k l = record {
  within : l.columns ≤ length l.first;
  agree : (c : ℕ) → c < l.columns
      → Agree (rows_of l.rows) (tile l.from l.first l.differences) (lists_of l.others) c l.k;
  differ : l.columns < length l.first
      → ¬ Agree (rows_of l.rows) (tile l.from l.first l.differences) (lists_of l.others) l.columns l.k;
}
