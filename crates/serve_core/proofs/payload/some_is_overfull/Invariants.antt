use Rattle.std.proofs.Common.{◌≡◌}
use Rattle.serve_core.specs.Case.{some_sets_unused}
use Rattle.serve_core.proofs.payload.some_is_overfull.Given as goal

-- of the vectors so far
abbrev pub invariant-loop-i : goal.invariant-loop-i
invariant-loop-i l = l.overfull ≡ some_sets_unused l.terms l.i l.query
