use Rattle.std.proofs.Common.{◌≡◌}
use Rattle.wire_frames.specs.Scheme.{number_of}
use Rattle.serve_core.specs.Case.{some_sets_unused}
use Rattle.serve_core.specs.Terms.{terms_for}
use Rattle.server_calls.proofs.judging.some_is_overfull.Given as goal

-- of the vectors so far
abbrev pub invariant-loop-i : goal.invariant-loop-i
invariant-loop-i l = l.overfull ≡ some_sets_unused (terms_for (number_of l.scheme) l.rows l.width) l.i l.query
