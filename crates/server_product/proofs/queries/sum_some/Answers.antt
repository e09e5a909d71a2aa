use Rattle.std.proofs.Common.{◌∙◌, ◌*◌, ap, arith}
use Rattle.server_product.proofs.QuerySums.{one-query}
use Rattle.server_product.proofs.queries.sum_some.Goals as goal

pub returns-then-count-eq1 : goal.returns-then-count-eq1
returns-then-count-eq1 c = λ p l.
    c.sum_rows.ensures p
    ∙ one-query c.args.queries.now c.args.matrix.now.rows c.args.matrix.now.width p c.args.from c.args.to (let one = ap (λ n. n * c.args.matrix.now.width) c.if-count-eq1.true in omega (arith, l, one))

pub sum_rows-requires-clause-order : goal.sum_rows-requires-clause-order
sum_rows-requires-clause-order c = c.requires.order

pub sum_rows-requires-clause-within : goal.sum_rows-requires-clause-within
sum_rows-requires-clause-within c = c.requires.within

pub sum_group-requires-clause-some : goal.sum_group-requires-clause-some
sum_group-requires-clause-some c = c.requires.some

pub sum_group-requires-clause-few : goal.sum_group-requires-clause-few
sum_group-requires-clause-few c = c.requires.few

pub sum_group-requires-clause-wide : goal.sum_group-requires-clause-wide
sum_group-requires-clause-wide c = c.requires.wide (omega arith)

pub sum_group-requires-clause-fits : goal.sum_group-requires-clause-fits
sum_group-requires-clause-fits c = c.requires.fits

pub sum_group-requires-clause-order : goal.sum_group-requires-clause-order
sum_group-requires-clause-order c = c.requires.order

pub sum_group-requires-clause-within : goal.sum_group-requires-clause-within
sum_group-requires-clause-within c = c.requires.within

pub sum_group-requires-clause-queries : goal.sum_group-requires-clause-queries
sum_group-requires-clause-queries c = c.requires.queries

pub sum_group-requires-clause-room : goal.sum_group-requires-clause-room
sum_group-requires-clause-room c = c.requires.room
