use Rattle.std.proofs.Common.{◌≡◌, map, take}
use Rattle.gf256.specs.Field.{◌⊗◌}
use Rattle.shamir_share.proofs.products.ProductTable.times_each.Given as goal

abbrev pub invariant-loop-i : goal.invariant-loop-i
invariant-loop-i l = take l.i l.into ≡ map (◌⊗◌ l.self) (take l.i l.from)
