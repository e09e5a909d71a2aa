use Rattle.std.proofs.Common.{◌≡◌, ◌-◌, ◌≤◌}
use Rattle.gf256.specs.Field.{power}
use Rattle.bi_poly.proofs.Derivatives.{derivative_to}
use Rattle.bi_poly.proofs.Hasse.{derivatives}
use Rattle.bi_poly.proofs.BiPoly.hasse.Given as goal

abbrev pub invariant-loop-j : goal.invariant-loop-j
invariant-loop-j l = record {
  from : l.v ≤ l.j;
  sum : l.sum ≡ derivative_to (derivatives l.self l.a l.u) l.b l.v l.j;
  power : l.power ≡ power l.b (l.j - l.v);
}
