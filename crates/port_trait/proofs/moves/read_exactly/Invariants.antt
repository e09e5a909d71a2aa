use Rattle.std.proofs.Common.{◌-◌, length}
use Rattle.port_trait.specs.Number.{number}
use Rattle.port_trait.specs.Moves.{Touches, Hands}
use Rattle.port_trait.proofs.moves.read_exactly.Given as goal

abbrev pub invariant-loop-filled : goal.invariant-loop-filled
invariant-loop-filled g l = record {
  so_far : Hands (number l.p) l.filled l.initial.into l.into (g.P.Ports.world l.initial.ports) (g.P.Ports.world l.ports);
  others : Touches (number l.p) (g.P.Ports.world l.initial.ports) (g.P.Ports.world l.ports);
}

abbrev pub decreases-loop-filled : goal.decreases-loop-filled
decreases-loop-filled g l = length l.initial.into - l.filled
