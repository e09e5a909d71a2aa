use Rattle.gs_interpolate.specs.Steps.{TookSteps}
use Rattle.gs_interpolate.proofs.steps.take_in_row.Given as goal

abbrev pub invariant-loop-step : goal.invariant-loop-step
invariant-loop-step l = TookSteps l.steps l.weight l.step-index l.row.items l.fn.row.items
