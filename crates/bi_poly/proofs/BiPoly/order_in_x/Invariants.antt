use Rattle.std.specs.Prelude.{MatchOption}
use Rattle.bi_poly.proofs.Degree.{IsZeroBelow, IsOrderBelow}
use Rattle.bi_poly.proofs.BiPoly.order_in_x.Given as goal

abbrev pub invariant-loop-j : goal.invariant-loop-j
invariant-loop-j l = MatchOption l.least (IsZeroBelow l.self l.j) (IsOrderBelow l.self l.j)
