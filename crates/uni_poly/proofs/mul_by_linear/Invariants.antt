use Rattle.std.proofs.Common.{◌≡◌, ◌++◌, drop}
use Rattle.uni_poly.proofs.LinearFactor.{with_carry}
use Rattle.uni_poly.proofs.mul_by_linear.Given as goal

abbrev pub invariant-loop-c : goal.invariant-loop-c
invariant-loop-c l = l.made.items ++ with_carry l.carry (drop l.c-index l.p) l.root ≡ with_carry 0 l.p l.root
