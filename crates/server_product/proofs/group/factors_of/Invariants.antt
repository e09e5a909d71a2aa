use Rattle.std.proofs.Common.{◌≡◌, ℕ, ◌+◌, ◌*◌, ◌/◌, ◌%◌, ◌<◌, length, slice_index}
use Rattle.server_product.proofs.group.factors_of.Given as goal

abbrev pub invariant-loop-v : goal.invariant-loop-v
invariant-loop-v l = record {
  size : length l.factors ≡ 64;
  filled : (p : ℕ) → p < 4 * l.v → slice_index l.factors p ≡ slice_index l.queries (p / 4 * l.rows + (l.j + p % 4 * l.apart));
}
