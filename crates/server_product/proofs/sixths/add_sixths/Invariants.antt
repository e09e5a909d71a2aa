use Rattle.std.proofs.Common.{◌≡◌, ℕ, slice_index}
use Rattle.gf256.specs.Field.{◌⊕◌}
use Rattle.server_product.specs.Runs.{term}
use Rattle.server_product.proofs.RunSums.{sixths}
use Rattle.server_product.proofs.sixths.add_sixths.Given as goal

abbrev pub invariant-loop-i : goal.invariant-loop-i
invariant-loop-i l = (k : ℕ) → slice_index l.sums k ≡ slice_index l.initial.sums k ⊕ sixths (term l.q l.matrix.rows k) l.from l.sixth l.i
