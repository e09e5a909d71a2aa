use Rattle.std.proofs.Common.{◌≡◌}
use Rattle.gf256.specs.Sums.{sum_to}
use Rattle.server_product.specs.Runs.{term}
use Rattle.server_product.proofs.plain.column_of_product.Given as goal

abbrev pub invariant-loop-j : goal.invariant-loop-j
invariant-loop-j l = l.sum ≡ sum_to (term l.q l.matrix.rows l.column) l.j
