use Rattle.std.proofs.Common.{◌-◌}
use Rattle.port_trait.specs.Number.{INPUT}
use Rattle.port_trait.specs.Moves.{Touches}
use Rattle.list_builds.specs.Gathering.{HasGathered}
use Rattle.list_builds.proofs.gather.gather_list.Given as goal

-- the lines that were given are gathered
abbrev pub invariant-lines : goal.invariant-lines
invariant-lines g l = record {
  so_far : HasGathered l.salt l.size l.fn.terms l.list l.lines (g.P.Ports.world l.initial.ports) (g.P.Ports.world l.ports);
  others : Touches INPUT (g.P.Ports.world l.initial.ports) (g.P.Ports.world l.ports);
}

abbrev pub decreases-lines : goal.decreases-lines
decreases-lines g l = l.fn.terms.most - l.lines.number
