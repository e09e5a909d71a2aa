use Rattle.std.proofs.Common.{◌≡◌, ℕ, slice_index}
use Rattle.gf256.specs.Field.{◌⊕◌}
use Rattle.gf256.specs.Sums.{run_sum}
use Rattle.server_product.specs.Runs.{term}
use Rattle.server_product.proofs.sixths.add_in_sixths.Given as goal

abbrev pub invariant-loop-j : goal.invariant-loop-j
invariant-loop-j l = (k : ℕ) → slice_index l.sums k ≡ slice_index l.fn.sums k ⊕ run_sum (term l.q l.matrix.rows k) l.from l.j
