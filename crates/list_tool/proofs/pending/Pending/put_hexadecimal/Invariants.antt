use Rattle.std.proofs.Common.{◌-◌, ◌≤◌, ◌++◌, length, take}
use Rattle.hex.specs.Hex.{encode_lower}
use Rattle.port_trait.specs.Number.{OUTPUT}
use Rattle.port_trait.specs.Moves.{Touches}
use Rattle.list_tool.specs.Pending.{HasPut}
use Rattle.list_tool.proofs.pending.Pending.put_hexadecimal.Given as goal

-- the bytes before this place are put
abbrev pub invariant-pieces : goal.invariant-pieces
invariant-pieces g l = record {
  within : l.at ≤ length l.bytes;
  so_far : HasPut (l.initial.self ++ encode_lower (take l.at l.bytes)) l.self (g.P.Ports.world l.initial.ports) (g.P.Ports.world l.ports);
  others : Touches OUTPUT (g.P.Ports.world l.initial.ports) (g.P.Ports.world l.ports);
}

abbrev pub decreases-pieces : goal.decreases-pieces
decreases-pieces g l = length l.bytes - l.at
