use Rattle.std.proofs.Common.{◌≡◌, ◌≤◌, ◌-◌, length, take}
use Rattle.port_trait.specs.Number.{number}
use Rattle.port_trait.specs.Moves.{Touches, gave}
use Rattle.port_trait.proofs.moves.write_all.Given as goal

abbrev pub invariant-loop-done : goal.invariant-loop-done
invariant-loop-done g l = record {
  within : l.done ≤ length l.piece;
  so_far : (g.P.Ports.world l.ports).at (number l.p) ≡ gave (take l.done l.piece) ((g.P.Ports.world l.initial.ports).at (number l.p));
  others : Touches (number l.p) (g.P.Ports.world l.initial.ports) (g.P.Ports.world l.ports);
}

abbrev pub decreases-loop-done : goal.decreases-loop-done
decreases-loop-done g l = length l.piece - l.done
