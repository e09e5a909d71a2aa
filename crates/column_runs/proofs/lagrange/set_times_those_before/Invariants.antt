use Rattle.std.proofs.Common.{◌≡◌, ◌+◌, ◌<◌, ℕ, get_or, take}
use Rattle.gf256.specs.Field.{◌⊗◌}
use Rattle.gf256.specs.Polynomial.{val}
use Rattle.uni_poly.specs.Product.{vanishing}
use Rattle.column_runs.proofs.lagrange.set_times_those_before.Given as goal

-- the product over the places so far, and the weights so far with theirs
abbrev pub invariant-loop-i : goal.invariant-loop-i
invariant-loop-i l = record {
  product : l.product ≡ val (vanishing (take l.i l.xs)) l.x;
  each : (k : ℕ) → k < l.i → get_or l.factors k 0 ≡ get_or l.weights k 0 ⊗ val (vanishing (take (k + 1) l.xs)) l.x;
}
