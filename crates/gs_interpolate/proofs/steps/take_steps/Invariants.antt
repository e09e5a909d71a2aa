use Rattle.std.proofs.Common.{◌≡◌, ℕ, ◌*◌, ◌<◌, ◌≤◌, length}
use Rattle.bi_poly.specs.Rows.{row}
use Rattle.gs_interpolate.specs.Family.{bytes_of}
use Rattle.gs_interpolate.specs.Steps.{TookSteps}
use Rattle.gs_interpolate.proofs.steps.take_steps.Given as goal

abbrev pub invariant-loop-j : goal.invariant-loop-j
invariant-loop-j l = record {
  each : (k : ℕ) → k < l.j → TookSteps l.steps (l.t * k) (length l.steps) (row (bytes_of l.rows) k) (row (bytes_of l.initial.rows) k);
  rest : (k : ℕ) → l.j ≤ k → row (bytes_of l.rows) k ≡ row (bytes_of l.initial.rows) k;
}
