use Rattle.gs_interpolate.specs.Expansion.{AreHalvesAdded}
use Rattle.gs_interpolate.proofs.expansion.add_halves.Given as goal

abbrev pub invariant-loop-pair : goal.invariant-loop-pair
invariant-loop-pair l = AreHalvesAdded l.factor l.size l.pair l.cells l.initial.cells
