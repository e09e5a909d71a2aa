use Rattle.std.proofs.Common.{◌≡◌, map}
use Rattle.std.specs.List.{range_with_len}
use Rattle.bi_poly.proofs.Multiplication.{sum_coef}
use Rattle.bi_poly.proofs.product.multiply_and_add.Given as goal

abbrev pub invariant-loop-e : goal.invariant-loop-e
invariant-loop-e l = l.made.items ≡ map (sum_coef l.p l.q l.r) (range_with_len 0 l.e)
