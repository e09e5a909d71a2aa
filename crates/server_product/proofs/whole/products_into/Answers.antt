use Rattle.std.proofs.Common.{◌*◌, ◌∙◌, ap, sym}
use Rattle.server_product.proofs.QuerySums.{products-are}
use Rattle.server_product.proofs.whole.products_into.Goals as goal

pub returns : goal.returns
returns g c =
    let matrix = c.args.matrix.now in
    products-are c.args.queries.now c.sum_in_parts.new.out matrix.rows matrix.width c.args.count
    (c.sum_in_parts.auto.out ∙ c.requires.room) c.requires.queries c.sum_in_parts.ensures

pub sum_in_parts-requires-clause-ready : goal.sum_in_parts-requires-clause-ready
sum_in_parts-requires-clause-ready g c κs within = (c.requires.few_queries, c.requires.queries)

pub sum_in_parts-requires-clause-scratch : goal.sum_in_parts-requires-clause-scratch
sum_in_parts-requires-clause-scratch g c κs within = c.requires.scratch ∙ ap (λ n. c.args.workers * n) (sym c.requires.room)
