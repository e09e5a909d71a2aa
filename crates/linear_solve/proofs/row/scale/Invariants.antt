use Rattle.std.proofs.Common.{◌≡◌, ℕ, ◌<◌, ◌≤◌, get_or}
use Rattle.gf256.specs.Field.{◌⊗◌}
use Rattle.linear_solve.proofs.row.scale.Given as goal

abbrev pub invariant-loop-x : goal.invariant-loop-x
invariant-loop-x l = record {
  below : (k : ℕ) → k < l.x-index → get_or l.row k 0 ≡ get_or l.initial.row k 0 ⊗ l.factor;
  above : (k : ℕ) → l.x-index ≤ k → get_or l.row k 0 ≡ get_or l.initial.row k 0;
}
