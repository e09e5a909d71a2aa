use Rattle.std.specs.Prelude.{MatchOption}
use Rattle.bi_poly.proofs.Degree.{IsZeroBelow, IsWeightBelow}
use Rattle.bi_poly.proofs.BiPoly.weighted_degree.Given as goal

abbrev pub invariant-loop-j : goal.invariant-loop-j
invariant-loop-j l = MatchOption l.greatest (IsZeroBelow l.self l.j) (IsWeightBelow l.self l.t l.j)
