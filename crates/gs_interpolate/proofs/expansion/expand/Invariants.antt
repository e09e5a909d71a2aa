use Rattle.gs_interpolate.proofs.Expansions.{AreHalved}
use Rattle.gs_interpolate.proofs.expansion.expand.Given as goal

abbrev pub invariant-halves : goal.invariant-halves
invariant-halves l = AreHalved l.lanes l.terms l.a l.initial.cells l.cells l.pairs l.size l.power

abbrev pub decreases-halves : goal.decreases-halves
decreases-halves l = l.pairs
