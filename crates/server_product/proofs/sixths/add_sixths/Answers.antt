use Rattle.std.proofs.Common.{◌≡◌, ◌∙◌, sym, ap, ap₂, arith, slice_index}
use Rattle.gf256.specs.Field.{◌⊕◌}
use Rattle.gf256.proofs.Xor.{add_zero, add_assoc}
use Rattle.server_product.specs.Runs.{term}
use Rattle.server_product.proofs.RunSums.{sixths, sixths-none, sixths-next, sixths-all}
use Rattle.server_product.proofs.SixSums.{six-terms}
use Rattle.server_product.proofs.sixths.add_sixths.Goals as goal

pub loop-i-init : goal.loop-i-init
loop-i-init c = λ k.
    let sum = slice_index c.args.sums.now k in
    sym (ap (◌⊕◌ sum) (sixths-none (term c.args.q.now c.args.matrix.now.rows k) c.args.from c.args.sixth) ∙ add_zero sum)

pub loop-i-preserved : goal.loop-i-preserved
loop-i-preserved c = λ k.
    let q = c.args.q.now in
    let rows = c.args.matrix.now.rows in
    let from = c.args.from in
    let sixth = c.args.sixth in
    let i = c.loop-i.i in
    let s = c.scaled_row in
    let s2 = c.scaled_row-in-loop-i in
    let s3 = c.scaled_row-in-loop-i-2 in
    let s4 = c.scaled_row-in-loop-i-3 in
    let s5 = c.scaled_row-in-loop-i-4 in
    let s6 = c.scaled_row-in-loop-i-5 in
    c.add_six_rows.ensures k
    ∙ ap₂ ◌⊕◌ (c.loop-i.invariant k)
    (six-terms _ k _ _ _ _ _ _
    (s.ensures.term k) (s2.ensures.term k) (s3.ensures.term k) (s4.ensures.term k) (s5.ensures.term k) (s6.ensures.term k))
    ∙ add_assoc (slice_index c.args.sums.now k) (sixths (term q rows k) from sixth i) _
    ∙ ap (◌⊕◌ (slice_index c.args.sums.now k)) (sym (sixths-next (term q rows k) from sixth i))

pub returns : goal.returns
returns c = λ k.
    let q = c.args.q.now in
    let rows = c.args.matrix.now.rows in
    let end : c.loop-i.i ≡ c.args.sixth = omega arith in
    c.loop-i.invariant k
    ∙ ap (◌⊕◌ (slice_index c.args.sums.now k))
    (ap (sixths (term q rows k) c.args.from c.args.sixth) end ∙ sixths-all (term q rows k) c.args.from c.args.sixth)

pub overflow_add-from : goal.overflow_add-from
overflow_add-from c = omega arith

pub scaled_row-requires-clause-within : goal.scaled_row-requires-clause-within
scaled_row-requires-clause-within c = omega arith

pub scaled_row-requires-clause-query : goal.scaled_row-requires-clause-query
scaled_row-requires-clause-query c = c.requires.query

pub overflow_add-from-in-loop-i : goal.overflow_add-from-in-loop-i
overflow_add-from-in-loop-i c = omega arith

pub overflow_add-from-in-loop-i-2 : goal.overflow_add-from-in-loop-i-2
overflow_add-from-in-loop-i-2 c = omega arith

pub scaled_row-requires-in-loop-i-clause-within : goal.scaled_row-requires-in-loop-i-clause-within
scaled_row-requires-in-loop-i-clause-within c = omega arith

pub scaled_row-requires-in-loop-i-clause-query : goal.scaled_row-requires-in-loop-i-clause-query
scaled_row-requires-in-loop-i-clause-query c = omega arith

pub overflow_mul-sixth : goal.overflow_mul-sixth
overflow_mul-sixth c = omega arith

pub overflow_add-from-in-loop-i-3 : goal.overflow_add-from-in-loop-i-3
overflow_add-from-in-loop-i-3 c = omega arith

pub overflow_add-from-in-loop-i-4 : goal.overflow_add-from-in-loop-i-4
overflow_add-from-in-loop-i-4 c = omega arith

pub scaled_row-requires-in-loop-i-2-clause-within : goal.scaled_row-requires-in-loop-i-2-clause-within
scaled_row-requires-in-loop-i-2-clause-within c = omega arith

pub scaled_row-requires-in-loop-i-2-clause-query : goal.scaled_row-requires-in-loop-i-2-clause-query
scaled_row-requires-in-loop-i-2-clause-query c = omega arith

pub overflow_mul-sixth-in-loop-i : goal.overflow_mul-sixth-in-loop-i
overflow_mul-sixth-in-loop-i c = omega arith

pub overflow_add-from-in-loop-i-5 : goal.overflow_add-from-in-loop-i-5
overflow_add-from-in-loop-i-5 c = omega arith

pub overflow_add-from-in-loop-i-6 : goal.overflow_add-from-in-loop-i-6
overflow_add-from-in-loop-i-6 c = omega arith

pub scaled_row-requires-in-loop-i-3-clause-within : goal.scaled_row-requires-in-loop-i-3-clause-within
scaled_row-requires-in-loop-i-3-clause-within c = omega arith

pub scaled_row-requires-in-loop-i-3-clause-query : goal.scaled_row-requires-in-loop-i-3-clause-query
scaled_row-requires-in-loop-i-3-clause-query c = omega arith

pub overflow_mul-sixth-in-loop-i-2 : goal.overflow_mul-sixth-in-loop-i-2
overflow_mul-sixth-in-loop-i-2 c = omega arith

pub overflow_add-from-in-loop-i-7 : goal.overflow_add-from-in-loop-i-7
overflow_add-from-in-loop-i-7 c = omega arith

pub overflow_add-from-in-loop-i-8 : goal.overflow_add-from-in-loop-i-8
overflow_add-from-in-loop-i-8 c = omega arith

pub scaled_row-requires-in-loop-i-4-clause-within : goal.scaled_row-requires-in-loop-i-4-clause-within
scaled_row-requires-in-loop-i-4-clause-within c = omega arith

pub scaled_row-requires-in-loop-i-4-clause-query : goal.scaled_row-requires-in-loop-i-4-clause-query
scaled_row-requires-in-loop-i-4-clause-query c = omega arith

pub overflow_mul-sixth-in-loop-i-3 : goal.overflow_mul-sixth-in-loop-i-3
overflow_mul-sixth-in-loop-i-3 c = omega arith

pub overflow_add-from-in-loop-i-9 : goal.overflow_add-from-in-loop-i-9
overflow_add-from-in-loop-i-9 c = omega arith

pub overflow_add-from-in-loop-i-10 : goal.overflow_add-from-in-loop-i-10
overflow_add-from-in-loop-i-10 c = omega arith

pub scaled_row-requires-in-loop-i-5-clause-within : goal.scaled_row-requires-in-loop-i-5-clause-within
scaled_row-requires-in-loop-i-5-clause-within c = omega arith

pub scaled_row-requires-in-loop-i-5-clause-query : goal.scaled_row-requires-in-loop-i-5-clause-query
scaled_row-requires-in-loop-i-5-clause-query c = omega arith

pub add_six_rows-requires-clause-a : goal.add_six_rows-requires-clause-a
add_six_rows-requires-clause-a c = omega arith

pub add_six_rows-requires-clause-b : goal.add_six_rows-requires-clause-b
add_six_rows-requires-clause-b c = omega arith

pub add_six_rows-requires-clause-c : goal.add_six_rows-requires-clause-c
add_six_rows-requires-clause-c c = omega arith

pub add_six_rows-requires-clause-d : goal.add_six_rows-requires-clause-d
add_six_rows-requires-clause-d c = omega arith

pub add_six_rows-requires-clause-e : goal.add_six_rows-requires-clause-e
add_six_rows-requires-clause-e c = omega arith

pub add_six_rows-requires-clause-f : goal.add_six_rows-requires-clause-f
add_six_rows-requires-clause-f c = omega arith
