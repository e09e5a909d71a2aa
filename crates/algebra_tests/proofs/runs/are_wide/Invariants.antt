use Rattle.std.proofs.Common.{ℕ, List, ◌<◌, ◌≤◌, length, map, get_or}
use Rattle.algebra_tests.proofs.runs.are_wide.Given as goal

-- the rows so far are
abbrev pub invariant-loop-i : goal.invariant-loop-i
invariant-loop-i l = (k : ℕ) (d : List ℕ) → k < l.i → l.width ≤ length (get_or (map (λ row. row.now) l.rows) k d)
