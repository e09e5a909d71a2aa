use Rattle.std.proofs.Common.{◌≡◌, drop}
use Rattle.gf256.specs.Field.{◌⊗◌}
use Rattle.gf256.specs.Polynomial.{val}
use Rattle.shamir_share.proofs.masks.mask.Given as goal

abbrev pub invariant-loop-e : goal.invariant-loop-e
invariant-loop-e l = l.value ≡ l.products ⊗ val (drop l.e l.row) l.products
