use Rattle.std.proofs.Common.{◌≡◌, ℕ, ◌-◌, ◌*◌, ◌≤◌, ◌<◌, slice_index}
use Rattle.gf256.specs.Sums.{run_sum}
use Rattle.xor_answers.specs.Asked.{asked}
use Rattle.xor_answers.proofs.bitmaps.sum_in_sets.Given as goal

abbrev pub invariant-sets : goal.invariant-sets
invariant-sets l = record {
  within : l.done ≤ l.count;
  summed : (p : ℕ) → p < l.done * l.matrix.width
      → slice_index l.sums p ≡ run_sum (asked l.bitmaps l.matrix.rows l.matrix.width p) l.from l.to;
}

abbrev pub decreases-sets : goal.decreases-sets
decreases-sets l = l.count - l.done
