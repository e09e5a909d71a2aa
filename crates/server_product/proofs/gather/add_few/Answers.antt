use Rattle.std.proofs.Common.{◌∙◌, ◌<◌, sym, ap, subst, slice_index, arith}
use Rattle.gf256.specs.Field.{◌⊕◌}
use Rattle.gf256.proofs.Xor.{add_zero, add_assoc}
use Rattle.server_product.specs.Runs.{term}
use Rattle.server_product.specs.Gathered.{few_sum, three_sum, AreRows}
use Rattle.server_product.proofs.gather.add_few.Goals as goal

pub returns-in-Empty : goal.returns-in-Empty
unfolding few_sum
returns-in-Empty c = λ k.
    sym (ap (λ few. slice_index c.args.sums.now k ⊕ few_sum c.args.q.now c.args.matrix.now.rows k few) c.in-Empty.is ∙ add_zero _)

pub returns-in-One : goal.returns-in-One
unfolding few_sum
returns-in-One c = λ k.
    c.add_term.ensures k ∙ sym (ap (λ few. slice_index c.args.sums.now k ⊕ few_sum c.args.q.now c.args.matrix.now.rows k few) c.in-One.is)

pub returns-in-Two : goal.returns-in-Two
unfolding few_sum
returns-in-Two c = λ k.
    let q = c.args.q.now in
    let rows = c.args.matrix.now.rows in
    let x = slice_index c.args.sums.now k in
    c.add_term-in-Two-2.ensures k
    ∙ ap (λ s. s ⊕ term q rows k c.in-Two.b) (c.add_term-in-Two.ensures k)
    ∙ add_assoc x (term q rows k c.in-Two.a) (term q rows k c.in-Two.b)
    ∙ sym (ap (λ few. x ⊕ few_sum q rows k few) c.in-Two.is)

pub returns-in-All : goal.returns-in-All
unfolding few_sum three_sum
returns-in-All c = λ k.
    let q = c.args.q.now in
    let rows = c.args.matrix.now.rows in
    let x = slice_index c.args.sums.now k in
    let a = term q rows k c.in-All.three.a in
    let b = term q rows k c.in-All.three.b in
    let d = term q rows k c.in-All.three.c in
    c.add_term-in-All-3.ensures k
    ∙ ap (λ s. s ⊕ d) (c.add_term-in-All-2.ensures k ∙ ap (λ s. s ⊕ b) (c.add_term-in-All.ensures k) ∙ add_assoc x a b)
    ∙ add_assoc x (a ⊕ b) d
    ∙ sym (ap (λ few. x ⊕ few_sum q rows k few) c.in-All.is)

pub add_term-requires-clause-within : goal.add_term-requires-clause-within
add_term-requires-clause-within c = subst (λ n. c.in-One.a < n) c.requires.query (subst (AreRows c.args.q.now) c.in-One.is c.requires.few)

pub add_term-requires-clause-query : goal.add_term-requires-clause-query
add_term-requires-clause-query c = c.requires.query

pub add_term-requires-clause-room : goal.add_term-requires-clause-room
add_term-requires-clause-room c = c.requires.room

pub add_term-requires-in-Two-clause-within : goal.add_term-requires-in-Two-clause-within
add_term-requires-in-Two-clause-within c = subst (λ n. c.in-Two.a < n) c.requires.query (subst (AreRows c.args.q.now) c.in-Two.is c.requires.few).0

pub add_term-requires-in-Two-clause-query : goal.add_term-requires-in-Two-clause-query
add_term-requires-in-Two-clause-query c = c.requires.query

pub add_term-requires-in-Two-clause-room : goal.add_term-requires-in-Two-clause-room
add_term-requires-in-Two-clause-room c = omega arith

pub add_term-requires-in-Two-2-clause-within : goal.add_term-requires-in-Two-2-clause-within
add_term-requires-in-Two-2-clause-within c = subst (λ n. c.in-Two.b < n) c.requires.query (subst (AreRows c.args.q.now) c.in-Two.is c.requires.few).1

pub add_term-requires-in-Two-2-clause-query : goal.add_term-requires-in-Two-2-clause-query
add_term-requires-in-Two-2-clause-query c = c.requires.query

pub add_term-requires-in-Two-2-clause-room : goal.add_term-requires-in-Two-2-clause-room
add_term-requires-in-Two-2-clause-room c = omega arith

pub add_term-requires-in-All-clause-within : goal.add_term-requires-in-All-clause-within
add_term-requires-in-All-clause-within c = subst (λ n. c.in-All.three.a < n) c.requires.query (subst (AreRows c.args.q.now) c.in-All.is c.requires.few).0

pub add_term-requires-in-All-clause-query : goal.add_term-requires-in-All-clause-query
add_term-requires-in-All-clause-query c = c.requires.query

pub add_term-requires-in-All-clause-room : goal.add_term-requires-in-All-clause-room
add_term-requires-in-All-clause-room c = omega arith

pub add_term-requires-in-All-2-clause-within : goal.add_term-requires-in-All-2-clause-within
add_term-requires-in-All-2-clause-within c = subst (λ n. c.in-All.three.b < n) c.requires.query (subst (AreRows c.args.q.now) c.in-All.is c.requires.few).1

pub add_term-requires-in-All-2-clause-query : goal.add_term-requires-in-All-2-clause-query
add_term-requires-in-All-2-clause-query c = c.requires.query

pub add_term-requires-in-All-2-clause-room : goal.add_term-requires-in-All-2-clause-room
add_term-requires-in-All-2-clause-room c = omega arith

pub add_term-requires-in-All-3-clause-within : goal.add_term-requires-in-All-3-clause-within
add_term-requires-in-All-3-clause-within c = subst (λ n. c.in-All.three.c < n) c.requires.query (subst (AreRows c.args.q.now) c.in-All.is c.requires.few).2

pub add_term-requires-in-All-3-clause-query : goal.add_term-requires-in-All-3-clause-query
add_term-requires-in-All-3-clause-query c = c.requires.query

pub add_term-requires-in-All-3-clause-room : goal.add_term-requires-in-All-3-clause-room
add_term-requires-in-All-3-clause-room c = omega arith
