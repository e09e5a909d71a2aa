use Rattle.std.proofs.Common.{◌-◌}
use Rattle.port_trait.specs.Number.{INPUT}
use Rattle.port_trait.specs.Moves.{Touches}
use Rattle.list_keys.specs.declared.TheConstants.{MOST_KEYS}
use Rattle.list_keys.specs.Keys.{KeysSoFar}
use Rattle.list_keys.proofs.keys.Keys.read.Given as goal

abbrev pub invariant-lines : goal.invariant-lines
invariant-lines g l = record {
  so_far : KeysSoFar l.fn.form l.keys l.reader (g.P.Ports.world l.initial.ports) (g.P.Ports.world l.ports);
  others : Touches INPUT (g.P.Ports.world l.initial.ports) (g.P.Ports.world l.ports);
}

abbrev pub decreases-lines : goal.decreases-lines
decreases-lines g l = MOST_KEYS - l.reader.number
