use Rattle.std.proofs.Common.{◌≡◌, ◌-◌, ◌≤◌}
use Rattle.gf256.specs.Field.{power}
use Rattle.bi_poly.proofs.Derivatives.{derivative_to}
use Rattle.bi_poly.proofs.row.derivative.Given as goal

abbrev pub invariant-loop-i : goal.invariant-loop-i
invariant-loop-i l = record {
  from : l.u ≤ l.i;
  sum : l.sum ≡ derivative_to l.p l.a l.u l.i;
  power : l.power ≡ power l.a (l.i - l.u);
}
