use Rattle.std.proofs.Common.{◌≡◌}
use Rattle.linear_solve.specs.Kernel.{component, inner}
use Rattle.linear_solve.proofs.row.inner_product.Given as goal

abbrev pub invariant-loop-k : goal.invariant-loop-k
invariant-loop-k l = l.sum ≡ inner (component l.row) l.v l.k
