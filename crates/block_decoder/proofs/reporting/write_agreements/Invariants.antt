use Rattle.std.proofs.Common.{◌≡◌, take}
use Rattle.std.specs.Prelude.{flat_map}
use Rattle.port_trait.specs.Number.{OUTPUT}
use Rattle.port_trait.specs.Moves.{Touches, gave}
use Rattle.block_decoder.specs.Text.{agree_line}
use Rattle.block_decoder.proofs.reporting.write_agreements.Given as goal

abbrev pub invariant-loop-agreement : goal.invariant-loop-agreement
invariant-loop-agreement g l = record {
  so_far : (g.P.Ports.world l.ports).at OUTPUT ≡ gave (flat_map agree_line (take l.agreement-index l.all)) ((g.P.Ports.world l.initial.ports).at OUTPUT);
  others : Touches OUTPUT (g.P.Ports.world l.initial.ports) (g.P.Ports.world l.ports);
}
