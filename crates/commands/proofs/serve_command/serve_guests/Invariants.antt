use Rattle.std.proofs.Common.{◌≡◌}
use Rattle.port_trait.specs.Number.{DOOR, GUEST}
use Rattle.commands.specs.ServeSteps.{AttendsInTurn, ServesGuests, TouchesGuests}
use Rattle.commands.proofs.Serving.{Replying}
use Rattle.commands.proofs.serve_command.serve_guests.Given as goal

abbrev pub invariant-guests : goal.invariant-guests
invariant-guests g l = record {
  desk : l.desk ≡ l.initial.desk;
  served : ServesGuests l.initial.desk l.counter (g.P.Ports.world l.initial.ports) (g.P.Ports.world l.ports);
  replying : Replying l.initial.desk l.counter (g.P.Ports.world l.initial.ports) (g.P.Ports.world l.ports);
  turns : AttendsInTurn l.initial.desk l.counter (g.P.Ports.world l.initial.ports) (g.P.Ports.world l.ports);
  unnamed : ((g.P.Ports.world l.ports).at GUEST).opened ≡ ((g.P.Ports.world l.initial.ports).at GUEST).opened;
  door : (g.P.Ports.world l.ports).at DOOR ≡ (g.P.Ports.world l.initial.ports).at DOOR;
  others : TouchesGuests (g.P.Ports.world l.initial.ports) (g.P.Ports.world l.ports);
}
