use Rattle.std.proofs.Common.{◌≡◌, ◌<◌, ℕ, slice_index}
use Rattle.gf256.specs.Product.{product_at}
use Rattle.server_product.proofs.plain.plain_into.Given as goal

abbrev pub invariant-loop-column : goal.invariant-loop-column
invariant-loop-column l = (k : ℕ) → k < l.column → slice_index l.out k ≡ product_at l.q l.matrix.rows k
