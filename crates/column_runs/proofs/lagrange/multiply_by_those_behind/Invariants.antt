use Rattle.std.proofs.Common.{◌≡◌, ◌+◌, ◌<◌, ◌≤◌, ℕ, length, get_or, drop}
use Rattle.gf256.specs.Field.{◌⊗◌}
use Rattle.gf256.specs.Polynomial.{val}
use Rattle.uni_poly.specs.Product.{vanishing}
use Rattle.column_runs.proofs.lagrange.multiply_by_those_behind.Given as goal

-- the product over the places so far, from the last on, and the factors so far with theirs
abbrev pub invariant-loop-i : goal.invariant-loop-i
invariant-loop-i l = record {
  product : l.product ≡ val (vanishing (drop (l.i + 1) l.xs)) l.x;
  done : (k : ℕ) → l.i ≤ k → k < length l.factors
      → get_or l.factors k 0 ≡ get_or l.initial.factors k 0 ⊗ val (vanishing (drop (k + 2) l.xs)) l.x;
  rest : (k : ℕ) → k < l.i → get_or l.factors k 0 ≡ get_or l.initial.factors k 0;
}
