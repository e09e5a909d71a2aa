use Rattle.std.proofs.Common.{◌≡◌, take}
use Rattle.std.specs.Prelude.{flat_map}
use Rattle.port_trait.specs.Number.{OUTPUT}
use Rattle.port_trait.specs.Moves.{Touches, gave}
use Rattle.block_decoder.specs.Text.{block_line}
use Rattle.block_decoder.proofs.write.write_blocks.Given as goal

abbrev pub invariant-loop-block : goal.invariant-loop-block
invariant-loop-block g l = record {
  so_far : (g.P.Ports.world l.ports).at OUTPUT ≡ gave (flat_map (λ b. block_line b.items) (take l.block-index l.blocks)) ((g.P.Ports.world l.initial.ports).at OUTPUT);
  others : Touches OUTPUT (g.P.Ports.world l.initial.ports) (g.P.Ports.world l.ports);
}
