use Rattle.port_trait.specs.Number.{COINS}
use Rattle.query_rounds.specs.Gathered.{TouchesLinks}
use Rattle.key_fetches.proofs.Progress.{InTurns}
use Rattle.key_fetches.proofs.turns.look_up.Given as goal

abbrev pub invariant-turns : goal.invariant-turns
invariant-turns g l = record {
  so_far : InTurns l.request l._turn l.search l.unlisted
      ((g.P.Ports.world l.initial.ports).at COINS) (g.P.Ports.world l.initial.ports) (g.P.Ports.world l.ports);
  others : TouchesLinks l.request.plan.n (g.P.Ports.world l.initial.ports) (g.P.Ports.world l.ports);
}
