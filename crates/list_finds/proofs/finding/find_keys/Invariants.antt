use Rattle.std.proofs.Common.{◌≤◌}
use Rattle.port_trait.specs.Number.{COINS}
use Rattle.query_rounds.specs.Gathered.{TouchesLinks}
use Rattle.list_finds.proofs.Progress.{InQueries}
use Rattle.list_finds.proofs.finding.find_keys.Given as goal

abbrev pub invariant-queries : goal.invariant-queries
invariant-queries g l = record {
  so_far : InQueries l.fn.search l.query l.answers l.unlisted ((g.P.Ports.world l.initial.ports).at COINS)
      (g.P.Ports.world l.initial.ports) (g.P.Ports.world l.ports);
  others : TouchesLinks l.fn.search.plan.n (g.P.Ports.world l.initial.ports) (g.P.Ports.world l.ports);
  cols : l.initial.cols ≤ l.cols;
  nodes : l.initial.nodes ≤ l.nodes;
}
