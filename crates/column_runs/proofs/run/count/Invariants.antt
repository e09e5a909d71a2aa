use Rattle.std.proofs.Common.{◌≡◌, ◌+◌}
use Rattle.column_runs.proofs.run.count.Given as goal

abbrev pub invariant-loop-column : goal.invariant-loop-column
invariant-loop-column g l = l.cols ≡ l.initial.cols + l._column
