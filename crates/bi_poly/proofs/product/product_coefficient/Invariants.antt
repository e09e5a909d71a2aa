use Rattle.std.proofs.Common.{◌≡◌}
use Rattle.bi_poly.proofs.Multiplication.{product_to}
use Rattle.bi_poly.proofs.product.product_coefficient.Given as goal

abbrev pub invariant-loop-i : goal.invariant-loop-i
invariant-loop-i l = l.sum ≡ product_to l.p l.q l.e l.i
