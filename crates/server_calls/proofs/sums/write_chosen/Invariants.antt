use Rattle.std.proofs.Common.{◌≡◌, ℕ, length, slice_index}
use Rattle.gf256.specs.Sums.{run_sum}
use Rattle.chor_xor.specs.Chosen.{given}
use Rattle.block_matrix.specs.Database.{rows_of}
use Rattle.server_calls.proofs.sums.write_chosen.Given as goal

-- in each column, what the chosen rows so far give
abbrev pub invariant-loop-j : goal.invariant-loop-j
invariant-loop-j l = record {
  sums : (k : ℕ) → slice_index l.out k ≡ run_sum (given l.bitmap (rows_of l.rows.width l.rows.count l.rows.bytes.now) k) 0 l.j;
  size : length l.out ≡ l.rows.width;
}
