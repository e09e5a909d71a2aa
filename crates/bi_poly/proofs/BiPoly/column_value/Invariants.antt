use Rattle.std.proofs.Common.{◌≡◌, drop}
use Rattle.gf256.specs.Polynomial.{val}
use Rattle.bi_poly.specs.Rows.{column}
use Rattle.bi_poly.proofs.BiPoly.column_value.Given as goal

abbrev pub invariant-loop-j : goal.invariant-loop-j
invariant-loop-j l = l.value ≡ val (drop l.j (column l.self l.i)) l.gamma
