use Rattle.std.proofs.Common.{◌≡◌, ℕ, slice_index, drop}
use Rattle.gf256.specs.Field.{◌⊕◌}
use Rattle.server_product.specs.Gathered.{held_sum, rest_sum, waiting_sum, HeldAreAlike, RestAreRows}
use Rattle.server_product.proofs.gather.add_waiting.Given as goal

abbrev pub invariant-loop-factor : goal.invariant-loop-factor
invariant-loop-factor l = record {
  held : HeldAreAlike l.q l.left.held;
  rest : RestAreRows l.q l.left.rest;
  sum : (k : ℕ)
      → slice_index l.sums k ⊕ held_sum l.q l.matrix.rows k l.left.held ⊕ rest_sum l.q l.matrix.rows k l.left.rest ⊕ waiting_sum l.q l.matrix.rows k (drop l.factor l.waiting)
      ≡ slice_index l.fn.sums k ⊕ held_sum l.q l.matrix.rows k l.fn.held ⊕ waiting_sum l.q l.matrix.rows k l.waiting;
}
