use Rattle.std.proofs.Common.{◌≡◌, ℕ, ◌<◌, get_or, length}
use Rattle.gf256.specs.Field.{◌⊗◌}
use Rattle.shamir_share.proofs.products.ProductTable.of.Given as goal

abbrev pub invariant-loop-x : goal.invariant-loop-x
invariant-loop-x l = record {
  size : length l.table ≡ 256;
  at : (k : ℕ) → k < l.x → get_or l.table k 0 ≡ l.factor ⊗ k;
}
