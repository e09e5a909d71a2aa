use Rattle.std.proofs.Common.{◌+◌, ◌*◌, slice_index, slice_range, ap, ◌∙◌, arith}
use Rattle.gf256.specs.Field.{◌⊕◌}
use Rattle.server_product.specs.Runs.{term}
use Rattle.server_product.specs.Queries.{entry}
use Rattle.row_workers.proofs.RunSums.{run-same}
use Rattle.row_workers.proofs.PieceSums.{part_fits}
use Rattle.server_product.proofs.QuerySums.{term-is}
use Rattle.server_product.proofs.group.MultiplesGroupSums.add_few.Goals as goal

pub returns : goal.returns
returns g c = λ k l.
    let matrix = c.args.group.matrix.now in
    let queries = c.args.group.queries.now in
    let v = c.args.v in
    let r = c.rows-rows.result in
    c.add_in_sixths.ensures k
    ∙ ap (◌⊕◌ (slice_index c.args.sums.now k))
    (run-same (term (slice_range queries (v * r) ((v + 1) * r)) matrix.rows k) (entry queries matrix.rows matrix.width (v * matrix.width + k)) c.args.from c.args.to
    (λ j a b. term-is queries matrix.rows matrix.width v r k j c.rows-rows.ensures.is l (omega (arith, b, c.requires.within))))

pub overflow_cast-rows : goal.overflow_cast-rows
overflow_cast-rows g c = omega arith

pub overflow_add-query : goal.overflow_add-query
overflow_add-query g c = omega arith

pub slice_bounds-query-count : goal.slice_bounds-query-count
slice_bounds-query-count g c = omega arith

pub slice_bounds-query-start : goal.slice_bounds-query-start
slice_bounds-query-start g c = omega arith

pub add_in_sixths-requires-clause-order : goal.add_in_sixths-requires-clause-order
add_in_sixths-requires-clause-order g c = c.requires.order

pub add_in_sixths-requires-clause-within : goal.add_in_sixths-requires-clause-within
add_in_sixths-requires-clause-within g c = c.requires.within

pub add_in_sixths-requires-clause-query : goal.add_in_sixths-requires-clause-query
add_in_sixths-requires-clause-query g c = omega arith

pub add_in_sixths-requires-clause-room : goal.add_in_sixths-requires-clause-room
add_in_sixths-requires-clause-room g c = c.requires.room

pub overflow_mul-query : goal.overflow_mul-query
overflow_mul-query g c = omega (arith, part_fits c.args.v c.args.group.count c.rows-rows.result _ _ (omega arith) c.rows-rows.ensures.is c.requires.queries)

pub overflow_mul-query-2 : goal.overflow_mul-query-2
overflow_mul-query-2 g c = omega (arith, part_fits (c.args.v + 1) c.args.group.count c.rows-rows.result _ _ (omega arith) c.rows-rows.ensures.is c.requires.queries)

pub slice_bounds-query-end : goal.slice_bounds-query-end
slice_bounds-query-end g c = omega (arith, part_fits (c.args.v + 1) c.args.group.count c.rows-rows.result _ _ (omega arith) c.rows-rows.ensures.is c.requires.queries)
