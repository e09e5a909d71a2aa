use Rattle.std.proofs.Common.{◌∙◌, ◌<◌, sym, ap, subst, slice_index}
use Rattle.gf256.specs.Field.{◌⊕◌}
use Rattle.server_product.specs.Runs.{term}
use Rattle.server_product.specs.Gathered.{held_sum, three_sum, HeldAreRows}
use Rattle.server_product.proofs.SixSums.{six-terms}
use Rattle.server_product.proofs.Gathering.{plus-none, six-and-none}
use Rattle.server_product.proofs.gather.add_six.Goals as goal

pub returns-in-None-clause-sum : goal.returns-in-None-clause-sum
unfolding held_sum
returns-in-None-clause-sum c = λ k.
    let q = c.args.q.now in
    let rows = c.args.matrix.now.rows in
    let x = slice_index c.args.sums.now k in
    let s = three_sum q rows k c.args.three in
    plus-none x s ∙ sym (ap (λ left. x ⊕ held_sum q rows k left ⊕ s) c.in-None.is)

pub returns-in-Some-clause-sum : goal.returns-in-Some-clause-sum
unfolding held_sum three_sum
returns-in-Some-clause-sum c = λ k.
    let q = c.args.q.now in
    let rows = c.args.matrix.now.rows in
    let x = slice_index c.args.sums.now k in
    let o = c.in-Some.other in
    let t = c.args.three in
    let s = c.scaled_row in
    let s2 = c.scaled_row-in-Some in
    let s3 = c.scaled_row-in-Some-2 in
    let s4 = c.scaled_row-in-Some-3 in
    let s5 = c.scaled_row-in-Some-4 in
    let s6 = c.scaled_row-in-Some-5 in
    ap (λ y. y ⊕ 0)
    (c.add_six_rows.ensures k
    ∙ ap (◌⊕◌ x)
    (six-terms _ k _ _ _ _ _ _
    (s.ensures.term k) (s2.ensures.term k) (s3.ensures.term k) (s4.ensures.term k) (s5.ensures.term k) (s6.ensures.term k)))
    ∙ six-and-none x (term q rows k o.a) (term q rows k o.b) (term q rows k o.c) (term q rows k t.a) (term q rows k t.b) (term q rows k t.c)
    ∙ sym (ap (λ left. x ⊕ held_sum q rows k left ⊕ three_sum q rows k t) c.in-Some.is)

pub scaled_row-requires-clause-within : goal.scaled_row-requires-clause-within
scaled_row-requires-clause-within c = subst (λ n. c.in-Some.other.a < n) c.requires.query (subst (HeldAreRows c.args.q.now) c.in-Some.is c.requires.left).0

pub scaled_row-requires-clause-query : goal.scaled_row-requires-clause-query
scaled_row-requires-clause-query c = c.requires.query

pub scaled_row-requires-in-Some-clause-within : goal.scaled_row-requires-in-Some-clause-within
scaled_row-requires-in-Some-clause-within c = subst (λ n. c.in-Some.other.b < n) c.requires.query (subst (HeldAreRows c.args.q.now) c.in-Some.is c.requires.left).1

pub scaled_row-requires-in-Some-clause-query : goal.scaled_row-requires-in-Some-clause-query
scaled_row-requires-in-Some-clause-query c = c.requires.query

pub scaled_row-requires-in-Some-2-clause-within : goal.scaled_row-requires-in-Some-2-clause-within
scaled_row-requires-in-Some-2-clause-within c = subst (λ n. c.in-Some.other.c < n) c.requires.query (subst (HeldAreRows c.args.q.now) c.in-Some.is c.requires.left).2

pub scaled_row-requires-in-Some-2-clause-query : goal.scaled_row-requires-in-Some-2-clause-query
scaled_row-requires-in-Some-2-clause-query c = c.requires.query

pub scaled_row-requires-in-Some-3-clause-within : goal.scaled_row-requires-in-Some-3-clause-within
scaled_row-requires-in-Some-3-clause-within c = subst (λ n. c.args.three.a < n) c.requires.query c.requires.three.0

pub scaled_row-requires-in-Some-3-clause-query : goal.scaled_row-requires-in-Some-3-clause-query
scaled_row-requires-in-Some-3-clause-query c = c.requires.query

pub scaled_row-requires-in-Some-4-clause-within : goal.scaled_row-requires-in-Some-4-clause-within
scaled_row-requires-in-Some-4-clause-within c = subst (λ n. c.args.three.b < n) c.requires.query c.requires.three.1

pub scaled_row-requires-in-Some-4-clause-query : goal.scaled_row-requires-in-Some-4-clause-query
scaled_row-requires-in-Some-4-clause-query c = c.requires.query

pub scaled_row-requires-in-Some-5-clause-within : goal.scaled_row-requires-in-Some-5-clause-within
scaled_row-requires-in-Some-5-clause-within c = subst (λ n. c.args.three.c < n) c.requires.query c.requires.three.2

pub scaled_row-requires-in-Some-5-clause-query : goal.scaled_row-requires-in-Some-5-clause-query
scaled_row-requires-in-Some-5-clause-query c = c.requires.query

pub add_six_rows-requires-clause-a : goal.add_six_rows-requires-clause-a
add_six_rows-requires-clause-a c = c.scaled_row.ensures.size ∙ sym c.requires.room

pub add_six_rows-requires-clause-b : goal.add_six_rows-requires-clause-b
add_six_rows-requires-clause-b c = c.scaled_row-in-Some.ensures.size ∙ sym c.requires.room

pub add_six_rows-requires-clause-c : goal.add_six_rows-requires-clause-c
add_six_rows-requires-clause-c c = c.scaled_row-in-Some-2.ensures.size ∙ sym c.requires.room

pub add_six_rows-requires-clause-d : goal.add_six_rows-requires-clause-d
add_six_rows-requires-clause-d c = c.scaled_row-in-Some-3.ensures.size ∙ sym c.requires.room

pub add_six_rows-requires-clause-e : goal.add_six_rows-requires-clause-e
add_six_rows-requires-clause-e c = c.scaled_row-in-Some-4.ensures.size ∙ sym c.requires.room

pub add_six_rows-requires-clause-f : goal.add_six_rows-requires-clause-f
add_six_rows-requires-clause-f c = c.scaled_row-in-Some-5.ensures.size ∙ sym c.requires.room

pub returns-in-None-clause-left : goal.returns-in-None-clause-left
returns-in-None-clause-left c = c.requires.three
