use Rattle.std.proofs.Common.{◌≡◌, take}
use Rattle.uni_poly.specs.Product.{vanishing}
use Rattle.uni_poly.proofs.vanishing.Given as goal

abbrev pub invariant-loop-a : goal.invariant-loop-a
invariant-loop-a l = l.made.items ≡ vanishing (take l.a-index l.xs)
