use Rattle.std.proofs.Common.{◌≡◌, ℕ, ◌<◌, length}
use Rattle.gs_interpolate.specs.Steps.{step_at}
use Rattle.gs_interpolate.proofs.steps.room_for_steps.Given as goal

abbrev pub invariant-loop : goal.invariant-loop
invariant-loop l = record {
  size : length l.steps.items ≡ l.counter;
  each : (k : ℕ) → k < l.counter → length (step_at l.steps.items k).factors ≡ l.lanes;
}
