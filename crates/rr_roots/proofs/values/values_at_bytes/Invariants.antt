use Rattle.std.proofs.Common.{◌≡◌, ℕ, ◌<◌, length, get_or}
use Rattle.bi_poly.specs.Rows.{column}
use Rattle.rr_roots.proofs.ByteValues.{value_to}
use Rattle.rr_roots.proofs.values.values_at_bytes.Given as goal

abbrev pub invariant-loop-e : goal.invariant-loop-e
invariant-loop-e l = record {
  size : length l.sums ≡ 256;
  sums : (g : ℕ) → g < 256 → get_or l.sums g 0 ≡ value_to (column l.q 0) g l.e;
}
