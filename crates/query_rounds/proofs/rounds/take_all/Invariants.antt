use Rattle.std.proofs.Common.{◌≡◌, length}
use Rattle.port_trait.specs.Number.{link}
use Rattle.port_trait.specs.Each.{TouchesRange}
use Rattle.query_rounds.specs.Rounds.{TakenEach}
use Rattle.query_rounds.proofs.rounds.take_all.Given as goal

abbrev pub invariant-places : goal.invariant-places
invariant-places g l = record {
  params : l.session.params ≡ l.initial.session.params;
  count : length l.session.records ≡ l.place;
  taken : TakenEach (length l.answer) l.place l.reached l.session (g.P.Ports.world l.initial.ports) (g.P.Ports.world l.ports);
  others : TouchesRange (link 1) l.place (g.P.Ports.world l.initial.ports) (g.P.Ports.world l.ports);
}
