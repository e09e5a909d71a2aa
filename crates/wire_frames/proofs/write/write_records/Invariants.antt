use Rattle.std.proofs.Common.{◌≡◌, take}
use Rattle.port_trait.specs.Number.{RECORD}
use Rattle.port_trait.specs.Moves.{Touches, gave}
use Rattle.wire_frames.specs.Session.{records_bytes}
use Rattle.wire_frames.proofs.write.write_records.Given as goal

abbrev pub invariant-loop-i : goal.invariant-loop-i
invariant-loop-i g l = record {
  so_far : (g.P.Ports.world l.ports).at RECORD ≡ gave (records_bytes 1 (take l.i l.session.records)) ((g.P.Ports.world l.initial.ports).at RECORD);
  others : Touches RECORD (g.P.Ports.world l.initial.ports) (g.P.Ports.world l.ports);
}
