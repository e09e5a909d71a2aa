use Rattle.std.proofs.Common.{◌≡◌, ℕ, ◌<◌, slice_index}
use Rattle.gf256.specs.Sums.{run_sum}
use Rattle.row_workers.specs.Parts.{first_row}
use Rattle.row_workers.proofs.whole.sum_in_parts.Given as goal

abbrev pub invariant-loop-worker : goal.invariant-loop-worker
invariant-loop-worker g l = (p : ℕ) → p < g.S.RowSums.places l.sums
    → slice_index l.out p ≡ run_sum (g.S.RowSums.gives l.sums p) 0 (first_row (g.S.RowSums.row_count l.sums) l.workers l.worker)
