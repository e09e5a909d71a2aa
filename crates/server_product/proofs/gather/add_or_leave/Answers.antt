use Rattle.std.proofs.Common.{◌∙◌, ◌<◌, sym, ap, subst, slice_index, arith}
use Rattle.gf256.specs.Field.{◌⊕◌}
use Rattle.gf256.proofs.Xor.{add_zero, add_assoc}
use Rattle.server_product.specs.Runs.{term}
use Rattle.server_product.specs.Gathered.{few_sum, held_sum, rest_sum, three_sum, FewAreOf}
use Rattle.server_product.proofs.Gathering.{beside-held, beside-rest, alike}
use Rattle.server_product.proofs.gather.add_or_leave.Goals as goal

pub returns-in-Empty-clause-sum : goal.returns-in-Empty-clause-sum
unfolding few_sum
returns-in-Empty-clause-sum c = λ k.
    let q = c.args.q.now in
    let rows = c.args.matrix.now.rows in
    let all = slice_index c.args.sums.now k ⊕ held_sum q rows k c.args.left.held ⊕ rest_sum q rows k c.args.left.rest in
    sym (ap (λ few. all ⊕ few_sum q rows k few) c.in-Empty.is ∙ add_zero all)

pub returns-in-One-clause-sum : goal.returns-in-One-clause-sum
unfolding few_sum
returns-in-One-clause-sum c = λ k.
    let q = c.args.q.now in
    let rows = c.args.matrix.now.rows in
    let x = slice_index c.args.sums.now k in
    let h = held_sum q rows k c.args.left.held in
    let r = rest_sum q rows k c.args.left.rest in
    beside-held _ _ x h r (term q rows k c.in-One.a) (c.add_to_rest.ensures.sum k)
    ∙ sym (ap (λ few. x ⊕ h ⊕ r ⊕ few_sum q rows k few) c.in-One.is)

pub returns-in-Two-clause-sum : goal.returns-in-Two-clause-sum
unfolding few_sum
returns-in-Two-clause-sum c = λ k.
    let q = c.args.q.now in
    let rows = c.args.matrix.now.rows in
    let x = slice_index c.args.sums.now k in
    let h = held_sum q rows k c.args.left.held in
    let r = rest_sum q rows k c.args.left.rest in
    let a = term q rows k c.in-Two.a in
    let b = term q rows k c.in-Two.b in
    beside-held _ _ x h r (a ⊕ b)
    (c.add_to_rest-in-Two.ensures.sum k ∙ ap (λ s. s ⊕ b) (c.add_to_rest-rest.ensures.sum k) ∙ add_assoc (x ⊕ r) a b)
    ∙ sym (ap (λ few. x ⊕ h ⊕ r ⊕ few_sum q rows k few) c.in-Two.is)

pub returns-in-All-clause-sum : goal.returns-in-All-clause-sum
unfolding few_sum
returns-in-All-clause-sum c = λ k.
    let q = c.args.q.now in
    let rows = c.args.matrix.now.rows in
    let x = slice_index c.args.sums.now k in
    let h = held_sum q rows k c.args.left.held in
    let r = rest_sum q rows k c.args.left.rest in
    beside-rest _ _ x h r (three_sum q rows k c.in-All.three) (c.hold.ensures.sum k)
    ∙ sym (ap (λ few. x ⊕ h ⊕ r ⊕ few_sum q rows k few) c.in-All.is)

pub add_to_rest-requires-clause-row : goal.add_to_rest-requires-clause-row
add_to_rest-requires-clause-row c = subst (λ n. c.in-One.a < n) c.requires.query (subst (FewAreOf c.args.q.now c.args.factor) c.in-One.is c.requires.few).0

pub add_to_rest-requires-clause-query : goal.add_to_rest-requires-clause-query
add_to_rest-requires-clause-query c = c.requires.query

pub add_to_rest-requires-clause-room : goal.add_to_rest-requires-clause-room
add_to_rest-requires-clause-room c = c.requires.room

pub add_to_rest-requires-clause-rest : goal.add_to_rest-requires-clause-rest
add_to_rest-requires-clause-rest c = c.requires.rest

pub add_to_rest-rest-requires-clause-row : goal.add_to_rest-rest-requires-clause-row
add_to_rest-rest-requires-clause-row c = subst (λ n. c.in-Two.a < n) c.requires.query (subst (FewAreOf c.args.q.now c.args.factor) c.in-Two.is c.requires.few).0.0

pub add_to_rest-rest-requires-clause-query : goal.add_to_rest-rest-requires-clause-query
add_to_rest-rest-requires-clause-query c = c.requires.query

pub add_to_rest-rest-requires-clause-room : goal.add_to_rest-rest-requires-clause-room
add_to_rest-rest-requires-clause-room c = c.requires.room

pub add_to_rest-rest-requires-clause-rest : goal.add_to_rest-rest-requires-clause-rest
add_to_rest-rest-requires-clause-rest c = c.requires.rest

pub add_to_rest-requires-in-Two-clause-row : goal.add_to_rest-requires-in-Two-clause-row
add_to_rest-requires-in-Two-clause-row c = subst (λ n. c.in-Two.b < n) c.requires.query (subst (FewAreOf c.args.q.now c.args.factor) c.in-Two.is c.requires.few).1.0

pub add_to_rest-requires-in-Two-clause-query : goal.add_to_rest-requires-in-Two-clause-query
add_to_rest-requires-in-Two-clause-query c = c.requires.query

pub add_to_rest-requires-in-Two-clause-room : goal.add_to_rest-requires-in-Two-clause-room
add_to_rest-requires-in-Two-clause-room c = omega arith

pub add_to_rest-requires-in-Two-clause-rest : goal.add_to_rest-requires-in-Two-clause-rest
add_to_rest-requires-in-Two-clause-rest c = c.add_to_rest-rest.ensures.rest

pub hold-requires-clause-query : goal.hold-requires-clause-query
hold-requires-clause-query c = c.requires.query

pub hold-requires-clause-room : goal.hold-requires-clause-room
hold-requires-clause-room c = c.requires.room

pub hold-requires-clause-held : goal.hold-requires-clause-held
hold-requires-clause-held c = c.requires.held

pub hold-requires-clause-three : goal.hold-requires-clause-three
hold-requires-clause-three c = alike c.args.q.now c.args.factor c.in-All.three (subst (FewAreOf c.args.q.now c.args.factor) c.in-All.is c.requires.few)

pub returns-in-Empty-clause-held : goal.returns-in-Empty-clause-held
returns-in-Empty-clause-held c = c.requires.held

pub returns-in-Empty-clause-rest : goal.returns-in-Empty-clause-rest
returns-in-Empty-clause-rest c = c.requires.rest

pub returns-in-One-clause-held : goal.returns-in-One-clause-held
returns-in-One-clause-held c = c.requires.held

pub returns-in-One-clause-rest : goal.returns-in-One-clause-rest
returns-in-One-clause-rest c = c.add_to_rest.ensures.rest

pub returns-in-Two-clause-held : goal.returns-in-Two-clause-held
returns-in-Two-clause-held c = c.requires.held

pub returns-in-Two-clause-rest : goal.returns-in-Two-clause-rest
returns-in-Two-clause-rest c = c.add_to_rest-in-Two.ensures.rest

pub returns-in-All-clause-held : goal.returns-in-All-clause-held
returns-in-All-clause-held c = c.hold.ensures.held

pub returns-in-All-clause-rest : goal.returns-in-All-clause-rest
returns-in-All-clause-rest c = c.requires.rest
