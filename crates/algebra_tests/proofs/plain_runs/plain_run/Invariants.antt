use Rattle.std.proofs.Common.{◌<◌, ◌+◌, ℕ, map, get_or}
use Rattle.column_runs.specs.Run.{points_at, IsConstant}
use Rattle.algebra_tests.proofs.plain_runs.plain_run.Given as goal

-- the constants of the columns so far
abbrev pub invariant-loop-column : goal.invariant-loop-column
invariant-loop-column l =
    (c : ℕ) → c < l.column → IsConstant (points_at l.columns.xs.now (map (λ row. row.now) l.columns.rows.now) (l.from + c)) l.columns.t (get_or l.out c 0)
