use Rattle.std.proofs.Common.{◌≡◌, map, string_bytes}
use Rattle.port_trait.specs.Number.{DOOR, GUEST}
use Rattle.shard_front.specs.Spread.{shards}
use Rattle.commands.specs.FrontAnswers.{FrontsAll}
use Rattle.commands.specs.FrontSteps.{FrontsInTurn, TouchesRelaying}
use Rattle.commands.proofs.front_command.relay_guests.Given as goal

abbrev pub invariant-guests : goal.invariant-guests
invariant-guests g l = record {
  front : l.front ≡ l.initial.front;
  turns : FrontsInTurn l.initial.front (map string_bytes l.addresses) l.counter (g.P.Ports.world l.initial.ports) (g.P.Ports.world l.ports);
  guests : FrontsAll l.initial.front l.counter (g.P.Ports.world l.initial.ports) (g.P.Ports.world l.ports);
  unnamed : ((g.P.Ports.world l.ports).at GUEST).opened ≡ ((g.P.Ports.world l.initial.ports).at GUEST).opened;
  door : (g.P.Ports.world l.ports).at DOOR ≡ (g.P.Ports.world l.initial.ports).at DOOR;
  others : TouchesRelaying (shards l.initial.front) (g.P.Ports.world l.initial.ports) (g.P.Ports.world l.ports);
}
