use Rattle.std.proofs.Common.{◌-◌, ◌≤◌, vec_len}
use Rattle.port_trait.specs.Number.{DATABASE}
use Rattle.port_trait.specs.Moves.{Touches}
use Rattle.port_trait.specs.Whole.{Reads}
use Rattle.block_matrix.proofs.file.read_up_to.Given as goal

abbrev pub invariant-pieces : goal.invariant-pieces
invariant-pieces g l = record {
  few : vec_len l.bytes ≤ l.most;
  so_far : Reads DATABASE l.bytes.items (g.P.Ports.world l.initial.ports) (g.P.Ports.world l.ports);
  others : Touches DATABASE (g.P.Ports.world l.initial.ports) (g.P.Ports.world l.ports);
}

abbrev pub decreases-pieces : goal.decreases-pieces
decreases-pieces g l = l.most - vec_len l.bytes
