use Rattle.std.proofs.Common.{◌≡◌, map, take}
use Rattle.gf256.specs.Polynomial.{coef}
use Rattle.bi_poly.proofs.BiPoly.column.Given as goal

abbrev pub invariant-loop-j : goal.invariant-loop-j
invariant-loop-j l = l.made.items ≡ map (λ r. coef r l.i) (take l.j l.self)
