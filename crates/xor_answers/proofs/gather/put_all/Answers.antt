use Rattle.std.proofs.Common.{ℕ, List, slice_index, sym, ap, ap₂, ◌∙◌, arith}
use Rattle.gf256.specs.Field.{◌⊕◌}
use Rattle.gf256.specs.Sums.{sum_to}
use Rattle.xor_answers.specs.Waiting.{column, few_sum}
use Rattle.xor_answers.proofs.WaitingSums.{seven, eight}
use Rattle.xor_answers.proofs.gather.put_all.Goals as goal

pub returns : goal.returns
unfolding few_sum column
returns c = λ k l.
    let x : List ℕ → ℕ = λ xs. slice_index xs k in
    let f : ℕ → ℕ = λ i. column c.args.matrix.now.rows k (slice_index c.args.few.rows i) in
    c.put_eight.ensures k (omega (arith, l))
    ∙ ap₂ ◌⊕◌
    (ap₂ ◌⊕◌ (ap₂ ◌⊕◌ (ap₂ ◌⊕◌ (ap x c.row.ensures.is) (ap x c.row-2.ensures.is)) (ap x c.row-3.ensures.is)) (ap x c.row-4.ensures.is))
    (ap₂ ◌⊕◌ (ap₂ ◌⊕◌ (ap₂ ◌⊕◌ (ap x c.row-5.ensures.is) (ap x c.row-6.ensures.is)) (ap x c.row-7.ensures.is)) (ap x c.row-8.ensures.is))
    ∙ eight (f 0) (f 1) (f 2) (f 3) (f 4) (f 5) (f 6) (column c.args.matrix.now.rows k c.args.j)
    ∙ sym (ap (λ s. s ⊕ column c.args.matrix.now.rows k c.args.j) (ap (sum_to f) c.requires.seven ∙ seven f))

pub bounds-few-0 : goal.bounds-few-0
bounds-few-0 c = omega arith

pub row-requires : goal.row-requires
row-requires c = c.requires.rows.rows 0 (omega (arith, c.requires.seven))

pub bounds-few-1 : goal.bounds-few-1
bounds-few-1 c = omega arith

pub row-requires-2 : goal.row-requires-2
row-requires-2 c = c.requires.rows.rows 1 (omega (arith, c.requires.seven))

pub bounds-few-2 : goal.bounds-few-2
bounds-few-2 c = omega arith

pub row-requires-3 : goal.row-requires-3
row-requires-3 c = c.requires.rows.rows 2 (omega (arith, c.requires.seven))

pub bounds-few-3 : goal.bounds-few-3
bounds-few-3 c = omega arith

pub row-requires-4 : goal.row-requires-4
row-requires-4 c = c.requires.rows.rows 3 (omega (arith, c.requires.seven))

pub bounds-few-4 : goal.bounds-few-4
bounds-few-4 c = omega arith

pub row-requires-5 : goal.row-requires-5
row-requires-5 c = c.requires.rows.rows 4 (omega (arith, c.requires.seven))

pub bounds-few-5 : goal.bounds-few-5
bounds-few-5 c = omega arith

pub row-requires-6 : goal.row-requires-6
row-requires-6 c = c.requires.rows.rows 5 (omega (arith, c.requires.seven))

pub bounds-few-6 : goal.bounds-few-6
bounds-few-6 c = omega arith

pub row-requires-7 : goal.row-requires-7
row-requires-7 c = c.requires.rows.rows 6 (omega (arith, c.requires.seven))

pub row-requires-8 : goal.row-requires-8
row-requires-8 c = c.requires.row

pub put_eight-requires-clause-a : goal.put_eight-requires-clause-a
put_eight-requires-clause-a c = c.row.ensures.size ∙ sym c.requires.room

pub put_eight-requires-clause-b : goal.put_eight-requires-clause-b
put_eight-requires-clause-b c = c.row-2.ensures.size ∙ sym c.requires.room

pub put_eight-requires-clause-c : goal.put_eight-requires-clause-c
put_eight-requires-clause-c c = c.row-3.ensures.size ∙ sym c.requires.room

pub put_eight-requires-clause-d : goal.put_eight-requires-clause-d
put_eight-requires-clause-d c = c.row-4.ensures.size ∙ sym c.requires.room

pub put_eight-requires-clause-e : goal.put_eight-requires-clause-e
put_eight-requires-clause-e c = c.row-5.ensures.size ∙ sym c.requires.room

pub put_eight-requires-clause-f : goal.put_eight-requires-clause-f
put_eight-requires-clause-f c = c.row-6.ensures.size ∙ sym c.requires.room

pub put_eight-requires-clause-g : goal.put_eight-requires-clause-g
put_eight-requires-clause-g c = c.row-7.ensures.size ∙ sym c.requires.room

pub put_eight-requires-clause-h : goal.put_eight-requires-clause-h
put_eight-requires-clause-h c = c.row-8.ensures.size ∙ sym c.requires.room
