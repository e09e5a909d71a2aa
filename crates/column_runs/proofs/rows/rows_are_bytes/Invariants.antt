use Rattle.std.proofs.Common.{◌<◌, ◌^◌, ℕ, List, length, map, get_or, All}
use Rattle.column_runs.proofs.rows.rows_are_bytes.Given as goal

-- the rows so far
abbrev pub invariant-loop-place : goal.invariant-loop-place
invariant-loop-place l = (k : ℕ) (d : List ℕ) → k < l.place
    → All (λ b. b < 256) (get_or (map (λ row. row.now) l.rows) k d) × (length (get_or (map (λ row. row.now) l.rows) k d) < 2 ^ 64)
