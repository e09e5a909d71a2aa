use Rattle.std.proofs.Common.{◌≡◌, ◌∙◌, slice_index, sym, ap, ap₂, arith, add-one}
use Rattle.gf256.specs.Field.{◌⊕◌}
use Rattle.gf256.specs.Sums.{sum_to}
use Rattle.xor_answers.specs.Waiting.{column, few_sum}
use Rattle.xor_answers.proofs.gather.put_few.Goals as goal

pub loop-i-init : goal.loop-i-init
unfolding sum_to
loop-i-init c = λ k. c.clear.ensures k

pub loop-i-preserved : goal.loop-i-preserved
unfolding sum_to column
loop-i-preserved c = λ k.
    c.add_row.ensures k ∙ ap₂ ◌⊕◌ (c.loop-i.invariant k) (ap (λ xs. slice_index xs k) c.row.ensures.is)
    ∙ ap (sum_to (λ i. column c.args.matrix.now.rows k (slice_index c.args.few.rows i))) (sym (add-one c.loop-i.i))

pub returns : goal.returns
unfolding few_sum
returns c = λ k.
    let end : c.loop-i.i ≡ c.args.few.count = omega arith in
    c.loop-i.invariant k ∙ ap (sum_to (λ i. column c.args.matrix.now.rows k (slice_index c.args.few.rows i))) end

pub overflow_cast-i-end : goal.overflow_cast-i-end
overflow_cast-i-end c = omega arith

pub offset_bounds-few-i : goal.offset_bounds-few-i
offset_bounds-few-i c = omega arith

pub bounds-few-i : goal.bounds-few-i
bounds-few-i c = omega arith

pub row-requires : goal.row-requires
row-requires c = c.requires.rows.rows c.loop-i.i (omega arith)

pub add_row-requires : goal.add_row-requires
add_row-requires c = omega arith

pub loop-i-smaller : goal.loop-i-smaller
loop-i-smaller c = omega arith
