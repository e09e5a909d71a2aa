use Rattle.std.proofs.Common.{◌≡◌, ◌+◌, ◌<◌, ℕ, length, get_or}
use Rattle.column_runs.specs.Lagrange.{weight}
use Rattle.column_runs.proofs.lagrange.weights_of.Given as goal

-- the weights of the places so far, from 1 on
abbrev pub invariant-loop-place : goal.invariant-loop-place
invariant-loop-place l = record {
  size : length l.weights.items + 1 ≡ l.place;
  each : (i : ℕ) → i + 1 < l.place → get_or l.weights.items i 0 ≡ weight l.xs (i + 1);
}
