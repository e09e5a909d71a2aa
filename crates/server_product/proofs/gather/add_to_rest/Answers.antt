use Rattle.std.proofs.Common.{◌∙◌, sym, ap, subst, slice_index, arith}
use Rattle.gf256.specs.Field.{◌⊕◌}
use Rattle.gf256.proofs.Xor.{zero_add}
use Rattle.server_product.specs.Runs.{term}
use Rattle.server_product.specs.Gathered.{few_sum, held_sum, rest_sum, three_sum, AreRows}
use Rattle.server_product.proofs.Gathering.{joined-rest, three-go}
use Rattle.server_product.proofs.gather.add_to_rest.Goals as goal

pub returns-in-All-clause-sum : goal.returns-in-All-clause-sum
unfolding rest_sum few_sum
returns-in-All-clause-sum c = λ k.
    let q = c.args.q.now in
    let rows = c.args.matrix.now.rows in
    three-go _ _ (slice_index c.args.sums.now k) (held_sum q rows k c.args.rest.three) (three_sum q rows k c.in-All.full) _ (term q rows k c.args.j)
    (c.add_six.ensures.sum k) (ap (few_sum q rows k) c.in-All.is)

pub returns-in-Empty-clause-sum : goal.returns-in-Empty-clause-sum
unfolding rest_sum few_sum
returns-in-Empty-clause-sum c = λ k.
    let q = c.args.q.now in
    let rows = c.args.matrix.now.rows in
    let t = term q rows k c.args.j in
    joined-rest (slice_index c.args.sums.now k) (held_sum q rows k c.args.rest.three) _ _ t
    (sym (ap (λ few. few_sum q rows k few ⊕ t) c.in-Empty.is ∙ zero_add t))

pub returns-in-One-clause-sum : goal.returns-in-One-clause-sum
unfolding rest_sum few_sum
returns-in-One-clause-sum c = λ k.
    let q = c.args.q.now in
    let rows = c.args.matrix.now.rows in
    let t = term q rows k c.args.j in
    joined-rest (slice_index c.args.sums.now k) (held_sum q rows k c.args.rest.three) _ _ t
    (sym (ap (λ few. few_sum q rows k few ⊕ t) c.in-One.is))

pub returns-in-Two-clause-sum : goal.returns-in-Two-clause-sum
unfolding rest_sum few_sum three_sum
returns-in-Two-clause-sum c = λ k.
    let q = c.args.q.now in
    let rows = c.args.matrix.now.rows in
    let t = term q rows k c.args.j in
    joined-rest (slice_index c.args.sums.now k) (held_sum q rows k c.args.rest.three) _ _ t
    (sym (ap (λ few. few_sum q rows k few ⊕ t) c.in-Two.is))

pub add_six-requires-clause-query : goal.add_six-requires-clause-query
add_six-requires-clause-query c = c.requires.query

pub add_six-requires-clause-room : goal.add_six-requires-clause-room
add_six-requires-clause-room c = c.requires.room

pub add_six-requires-clause-left : goal.add_six-requires-clause-left
add_six-requires-clause-left c = c.requires.rest.0

pub add_six-requires-clause-three : goal.add_six-requires-clause-three
add_six-requires-clause-three c = subst (AreRows c.args.q.now) c.in-All.is c.requires.rest.1

pub returns-in-All-clause-rest : goal.returns-in-All-clause-rest
returns-in-All-clause-rest c = (c.add_six.ensures.left, omega arith)

pub returns-in-Empty-clause-rest : goal.returns-in-Empty-clause-rest
returns-in-Empty-clause-rest c = (c.requires.rest.0, omega arith)

pub returns-in-One-clause-rest : goal.returns-in-One-clause-rest
returns-in-One-clause-rest c = (c.requires.rest.0, (subst (AreRows c.args.q.now) c.in-One.is c.requires.rest.1, omega arith))

pub returns-in-Two-clause-rest : goal.returns-in-Two-clause-rest
returns-in-Two-clause-rest c =
    let two = subst (AreRows c.args.q.now) c.in-Two.is c.requires.rest.1 in
    (c.requires.rest.0, (two.0, two.1, omega arith))
