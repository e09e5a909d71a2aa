use Rattle.std.proofs.Common.{arith, ◌∙◌, ap, sym, length, slice_index}
use Rattle.gf256.specs.Field.{◌⊕◌}
use Rattle.gf256.proofs.Xor.{zero_add}
use Rattle.gf256.specs.Sums.{run_sum}
use Rattle.server_product.specs.Runs.{term}
use Rattle.row_workers.proofs.RunSums.{zeros-at, zeros-long}
use Rattle.server_product.proofs.runs.sum_rows.Goals as goal

pub returns-then-width-ge-WIDE : goal.returns-then-width-ge-WIDE
returns-then-width-ge-WIDE c = λ k.
    c.add_in_trios.ensures k
    ∙ ap (λ s. s ⊕ run_sum (term c.args.q.now c.args.matrix.now.rows k) c.args.from c.args.to) (c.clear.ensures k) ∙ zero_add _

pub returns-else-width-ge-WIDE : goal.returns-else-width-ge-WIDE
returns-else-width-ge-WIDE c = λ k.
    ap (λ xs. slice_index xs k) c.copy_from_slice.ensures.after
    ∙ c.add_in_sixths.ensures k
    ∙ ap (λ s. s ⊕ run_sum (term c.args.q.now c.args.matrix.now.rows k) c.args.from c.args.to)
    (zeros-at (length c.args.sums.now) 8192 k) ∙ zero_add _

pub add_in_trios-requires-clause-order : goal.add_in_trios-requires-clause-order
add_in_trios-requires-clause-order c = c.requires.order

pub add_in_trios-requires-clause-within : goal.add_in_trios-requires-clause-within
add_in_trios-requires-clause-within c = c.requires.within

pub add_in_trios-requires-clause-query : goal.add_in_trios-requires-clause-query
add_in_trios-requires-clause-query c = c.requires.query

pub add_in_trios-requires-clause-room : goal.add_in_trios-requires-clause-room
add_in_trios-requires-clause-room c = c.clear.auto.row ∙ c.requires.room

pub slice_bounds-stack-end : goal.slice_bounds-stack-end
slice_bounds-stack-end c = omega arith

pub add_in_sixths-requires-clause-order : goal.add_in_sixths-requires-clause-order
add_in_sixths-requires-clause-order c = c.requires.order

pub add_in_sixths-requires-clause-within : goal.add_in_sixths-requires-clause-within
add_in_sixths-requires-clause-within c = c.requires.within

pub add_in_sixths-requires-clause-query : goal.add_in_sixths-requires-clause-query
add_in_sixths-requires-clause-query c = c.requires.query

pub slice_bounds-own-end : goal.slice_bounds-own-end
slice_bounds-own-end c = sym (zeros-long (length c.args.sums.now) 8192 (omega arith))

pub add_in_sixths-requires-clause-room : goal.add_in_sixths-requires-clause-room
add_in_sixths-requires-clause-room c = zeros-long (length c.args.sums.now) 8192 (omega arith) ∙ c.requires.room

pub copy_from_slice-requires : goal.copy_from_slice-requires
copy_from_slice-requires c = sym (c.add_in_sixths.auto.sums ∙ zeros-long (length c.args.sums.now) 8192 (omega arith))
