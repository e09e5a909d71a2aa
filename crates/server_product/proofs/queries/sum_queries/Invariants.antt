use Rattle.std.proofs.Common.{◌≡◌, ℕ, ◌-◌, ◌*◌, ◌≤◌, ◌<◌, slice_index}
use Rattle.gf256.specs.Sums.{run_sum}
use Rattle.server_product.specs.Queries.{entry}
use Rattle.server_product.proofs.queries.sum_queries.Given as goal

abbrev pub invariant-groups : goal.invariant-groups
invariant-groups l = record {
  within : l.done ≤ l.count;
  summed : (p : ℕ) → p < l.done * l.matrix.width
      → slice_index l.sums p ≡ run_sum (entry l.queries l.matrix.rows l.matrix.width p) l.from l.to;
}

abbrev pub decreases-groups : goal.decreases-groups
decreases-groups l = l.count - l.done
