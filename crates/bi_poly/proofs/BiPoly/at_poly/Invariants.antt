use Rattle.std.proofs.Common.{◌≡◌, ℕ, drop}
use Rattle.gf256.specs.Polynomial.{coef}
use Rattle.bi_poly.proofs.Composition.{at_series}
use Rattle.bi_poly.proofs.BiPoly.at_poly.Given as goal

abbrev pub invariant-loop-j : goal.invariant-loop-j
invariant-loop-j l = (e : ℕ) → coef l.made.items e ≡ at_series (drop l.j l.self) (coef l.phi) e
