use Rattle.std.proofs.Common.{◌≡◌, ℕ, ◌-◌, ◌≤◌, length, get_or}
use Rattle.gf256.specs.Field.{◌⊕◌, power}
use Rattle.bi_poly.specs.Rows.{column}
use Rattle.bi_poly.proofs.Derivatives.{derivative_to}
use Rattle.bi_poly.proofs.BiPoly.add_derivatives.Given as goal

abbrev pub invariant-loop-k : goal.invariant-loop-k
invariant-loop-k l = record {
  from : l.j ≤ l.k;
  size : length l.sums ≡ length l.initial.sums;
  sums : (i : ℕ) → get_or l.sums i 0 ≡ get_or l.initial.sums i 0 ⊕ derivative_to (column l.self i) l.gamma l.j l.k;
  power : l.power ≡ power l.gamma (l.k - l.j);
}
