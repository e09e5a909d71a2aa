use Rattle.std.proofs.Common.{◌≡◌, ℕ, ◌<◌, slice_index, slice_index_or}
use Rattle.gf256.specs.Field.{◌⊕◌}
use Rattle.gf256.specs.Sums.{run_sum}
use Rattle.server_product.specs.Runs.{term}
use Rattle.server_product.specs.Gathered.{held_sum, waiting_sum, FewAreOf, HeldAreAlike}
use Rattle.server_product.specs.declared.gather.UpToThree.TheVariants.{Empty}
use Rattle.server_product.proofs.gather.add_in_trios.Given as goal

abbrev pub invariant-loop-j : goal.invariant-loop-j
invariant-loop-j l = record {
  held : HeldAreAlike l.q l.held;
  waiting : (f : ℕ) → f < 256 → FewAreOf l.q f (slice_index_or l.waiting f Empty);
  sum : (k : ℕ) → slice_index l.sums k ⊕ held_sum l.q l.matrix.rows k l.held ⊕ waiting_sum l.q l.matrix.rows k l.waiting
      ≡ slice_index l.fn.sums k ⊕ run_sum (term l.q l.matrix.rows k) l.from l.j;
}
