use Rattle.std.proofs.Common.{◌+◌, ◌-◌, ◌*◌}
use Rattle.row_workers.proofs.parts.+starts.Given as goal

abbrev pub decreases-run_from : goal.decreases-run_from
decreases-run_from g l = 4 * (l.workers - l.first)

abbrev pub decreases-run_both : goal.decreases-run_both
decreases-run_both g l = 4 * (l.workers - l.first) - 1

abbrev pub decreases-run_both-back : goal.decreases-run_both-back
decreases-run_both-back g l = 4 * (l.workers - l.next) + 1
