use Rattle.std.proofs.Common.{◌-◌, length}
use Rattle.replay.proofs.Readings.{HasSeen, seen_by, longest}
use Rattle.replay.proofs.read_pieces.Given as goal

abbrev pub invariant-pieces : goal.invariant-pieces
invariant-pieces g l = HasSeen l.reader (g.P.Ports.world l.initial.ports) (g.P.Ports.world l.ports)

abbrev pub decreases-pieces : goal.decreases-pieces
decreases-pieces g l = longest - length (seen_by l.reader)
