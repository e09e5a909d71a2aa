use Rattle.std.proofs.Common.{drop}
use Rattle.wire_frames.proofs.NumberPrefixes.{IsFloor}
use Rattle.wire_frames.proofs.field.number_at.Given as goal

abbrev pub invariant-loop-i : goal.invariant-loop-i
invariant-loop-i l = IsFloor l.number (drop l.at l.bytes) l.i l.floor
