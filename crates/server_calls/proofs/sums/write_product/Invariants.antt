use Rattle.std.proofs.Common.{◌≡◌, ℕ, length, slice_index}
use Rattle.gf256.specs.Sums.{sum_to}
use Rattle.server_product.specs.Runs.{term}
use Rattle.block_matrix.specs.Database.{rows_of}
use Rattle.server_calls.proofs.sums.write_product.Given as goal

-- in each column, what the rows so far give
abbrev pub invariant-loop-j : goal.invariant-loop-j
invariant-loop-j l = record {
  sums : (k : ℕ) → slice_index l.out k ≡ sum_to (term l.vector (rows_of l.rows.width l.rows.count l.rows.bytes.now) k) l.j;
  size : length l.out ≡ l.rows.width;
}
