use Rattle.std.proofs.Common.{rules}
use Rattle.column_runs.specs.Close.{least_misses}
use Rattle.column_runs.proofs.close.least_misses.Goals as goal

pub returns : goal.returns
unfolding least_misses
returns c = search rules
