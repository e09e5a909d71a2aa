use Rattle.std.proofs.Common.{◌≡◌, take}
use Rattle.std.specs.Prelude.{flat_map}
use Rattle.port_trait.specs.Number.{OUTPUT}
use Rattle.port_trait.specs.Moves.{Touches, gave}
use Rattle.block_decoder.specs.Text.{number_word}
use Rattle.block_decoder.proofs.reporting.write_indices.Given as goal

abbrev pub invariant-loop-index : goal.invariant-loop-index
invariant-loop-index g l = record {
  so_far : (g.P.Ports.world l.ports).at OUTPUT ≡ gave (flat_map number_word (take l.index-index l.indices)) ((g.P.Ports.world l.initial.ports).at OUTPUT);
  others : Touches OUTPUT (g.P.Ports.world l.initial.ports) (g.P.Ports.world l.ports);
}
