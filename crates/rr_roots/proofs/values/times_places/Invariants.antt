use Rattle.rr_roots.specs.Values.{AreTimesPlaces}
use Rattle.rr_roots.proofs.values.times_places.Given as goal

abbrev pub invariant-loop-block : goal.invariant-loop-block
invariant-loop-block l = AreTimesPlaces l.initial.row l.row l.block
