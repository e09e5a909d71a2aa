use Rattle.port_trait.specs.Number.{link}
use Rattle.port_trait.specs.Each.{TouchesRange}
use Rattle.query_rounds.specs.Rounds.{SentEach}
use Rattle.query_rounds.proofs.rounds.ask_all.Given as goal

abbrev pub invariant-places : goal.invariant-places
invariant-places g l = record {
  sent : SentEach l.queries l.place l.reached (g.P.Ports.world l.initial.ports) (g.P.Ports.world l.ports);
  others : TouchesRange (link 1) l.place (g.P.Ports.world l.initial.ports) (g.P.Ports.world l.ports);
}
