use Rattle.std.proofs.Common.{◌≡◌, ◌-◌, ◌≤◌, length, take}
use Rattle.port_trait.specs.Number.{OUTPUT}
use Rattle.hex.specs.Hex.{encode_lower}
use Rattle.port_trait.specs.Moves.{Touches, gave}
use Rattle.block_decoder.proofs.write.write_hex.Given as goal

abbrev pub invariant-pieces : goal.invariant-pieces
invariant-pieces g l = record {
  within : l.at ≤ length l.bytes;
  so_far : (g.P.Ports.world l.ports).at OUTPUT ≡ gave (encode_lower (take l.at l.bytes)) ((g.P.Ports.world l.initial.ports).at OUTPUT);
  others : Touches OUTPUT (g.P.Ports.world l.initial.ports) (g.P.Ports.world l.ports);
}

abbrev pub decreases-pieces : goal.decreases-pieces
decreases-pieces g l = length l.bytes - l.at
