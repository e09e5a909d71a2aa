use Rattle.std.proofs.Common.{ℕ, ◌<◌, ◌≤◌, length}
use Rattle.gs_interpolate.specs.Basis.{weight}
use Rattle.gs_interpolate.proofs.basis.Basis.lightest.Given as goal

abbrev pub invariant-loop-j : goal.invariant-loop-j
invariant-loop-j l = record {
  inside : l.lightest < length l.self.rows;
  least : (k : ℕ) → k < l.j → weight l.self l.lightest ≤ weight l.self k;
}
