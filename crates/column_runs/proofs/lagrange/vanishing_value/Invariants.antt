use Rattle.std.proofs.Common.{◌≡◌, take}
use Rattle.gf256.specs.Polynomial.{val}
use Rattle.uni_poly.specs.Product.{vanishing}
use Rattle.column_runs.proofs.lagrange.vanishing_value.Given as goal

-- that over the first of them
abbrev pub invariant-loop-a : goal.invariant-loop-a
invariant-loop-a l = l.product ≡ val (vanishing (take l.a-index l.xs)) l.x
