use Rattle.gs_interpolate.proofs.RowLengths.{IsFilled}
use Rattle.gs_interpolate.proofs.layout.row_lengths.Given as goal

abbrev pub invariant-loop-missing : goal.invariant-loop-missing
invariant-loop-missing l = IsFilled l.lengths.items l.missing l.longest l.size l.t l.d

abbrev pub decreases-loop-missing : goal.decreases-loop-missing
decreases-loop-missing l = l.missing
