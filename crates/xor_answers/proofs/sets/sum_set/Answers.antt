use Rattle.std.proofs.Common.{◌≡◌, ℕ, ◌+◌, ◌-◌, ◌*◌, ◌<◌, slice_index, subst, ◌∙◌, arith, sym, ap}
use Rattle.row_workers.proofs.RunSums.{zeros-at, zeros-long}
use Rattle.xor_answers.specs.Patterns.{spread_at}
use Rattle.xor_answers.proofs.AnswerSums.{all-asked}
use Rattle.xor_answers.proofs.sets.sum_set.Goals as goal

pub add_by_pattern-requires-clause-zeros : goal.add_by_pattern-requires-clause-zeros
add_by_pattern-requires-clause-zeros c = zeros-at (256 * c.width-width.result) 65536

pub returns : goal.returns
returns c =
    let matrix = c.args.matrix.now in
    let n = c.args.count in
    all-asked c.args.bitmaps.now c.spread.new.sums matrix.rows matrix.width n c.args.from c.args.to
    (λ v k l m.
    subst (λ w. (v k : ℕ) → v < n → k < w → slice_index c.spread.new.sums (v * w + k) ≡ spread_at c.add_by_pattern.new.patterns w (n - 1 - v) k)
    c.width-width.ensures.is c.spread.ensures v k l m
    ∙ c.add_by_pattern.ensures v k l m)

pub overflow_cast-width : goal.overflow_cast-width
overflow_cast-width c = omega arith

pub overflow_mul-stack : goal.overflow_mul-stack
overflow_mul-stack c = omega arith

pub slice_bounds-stack-end : goal.slice_bounds-stack-end
slice_bounds-stack-end c = omega arith

pub add_by_pattern-requires-clause-few : goal.add_by_pattern-requires-clause-few
add_by_pattern-requires-clause-few c = c.requires.few

pub add_by_pattern-requires-clause-order : goal.add_by_pattern-requires-clause-order
add_by_pattern-requires-clause-order c = c.requires.order

pub add_by_pattern-requires-clause-within : goal.add_by_pattern-requires-clause-within
add_by_pattern-requires-clause-within c = c.requires.within

pub add_by_pattern-requires-clause-bitmaps : goal.add_by_pattern-requires-clause-bitmaps
add_by_pattern-requires-clause-bitmaps c = c.requires.bitmaps

pub spread-requires-clause-few : goal.spread-requires-clause-few
spread-requires-clause-few c = c.requires.few

pub spread-requires-clause-memory : goal.spread-requires-clause-memory
spread-requires-clause-memory c = omega arith

pub spread-requires-clause-room : goal.spread-requires-clause-room
spread-requires-clause-room c = c.requires.room ∙ ap (λ w. c.args.count * w) (sym c.width-width.ensures.is)

pub slice_bounds-patterns-end : goal.slice_bounds-patterns-end
slice_bounds-patterns-end c = sym (zeros-long (256 * c.width-width.result) 65536 (omega arith))

pub add_by_pattern-requires-clause-room : goal.add_by_pattern-requires-clause-room
add_by_pattern-requires-clause-room c = zeros-long (256 * c.width-width.result) 65536 (omega arith) ∙ ap (λ w. 256 * w) c.width-width.ensures.is

pub spread-requires-clause-patterns : goal.spread-requires-clause-patterns
spread-requires-clause-patterns c = c.add_by_pattern.auto.patterns ∙ zeros-long (256 * c.width-width.result) 65536 (omega arith)
