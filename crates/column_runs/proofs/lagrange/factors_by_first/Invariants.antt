use Rattle.std.proofs.Common.{◌≡◌, ◌+◌, ◌<◌, ℕ, [], length, map, get_or, take}
use Rattle.column_runs.specs.Lagrange.{Extends}
use Rattle.column_runs.proofs.lagrange.factors_by_first.Given as goal

-- the factors of the places so far, from t + 1 on
abbrev pub invariant-loop-place : goal.invariant-loop-place
invariant-loop-place l = record {
  size : l.place ≡ l.t + 1 + length l.others.items;
  each : (k : ℕ) → k < length l.others.items
      → Extends (take (l.t + 1) l.xs) (get_or l.xs (l.t + 1 + k) 0) (get_or (map (λ v. v.items) l.others.items) k []);
}
