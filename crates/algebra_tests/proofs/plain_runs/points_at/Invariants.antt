use Rattle.std.proofs.Common.{◌≡◌, ◌<◌, ◌+◌, ℕ, [], length, map, get_or}
use Rattle.algebra_tests.proofs.plain_runs.points_at.Given as goal

-- the points of the places so far
abbrev pub invariant-loop-place : goal.invariant-loop-place
invariant-loop-place l = record {
  size : length l.points.items ≡ l.place;
  each : (k : ℕ) (d : ℕ × ℕ) → k < l.place
      → get_or l.points.items k d ≡ (get_or l.xs k 0, get_or (get_or (map (λ row. row.now) l.rows) k []) (l.from + l.column) 0);
}
