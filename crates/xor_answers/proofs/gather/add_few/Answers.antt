use Rattle.std.proofs.Common.{◌≡◌, ℕ, ◌+◌, ◌-◌, ◌*◌, ◌<◌, slice_index, length, subst, sym, ap, ◌∙◌, arith}
use Rattle.std.specs.Int.{bit_at}
use Rattle.gf256.specs.Field.{◌⊕◌}
use Rattle.gf256.specs.Sums.{sum_to}
use Rattle.gf256.proofs.Xor.{add_zero}
use Rattle.xor_answers.specs.Waiting.{column, few_sum}
use Rattle.xor_answers.proofs.gather.add_few.Goals as goal

pub returns-then-few-eq0 : goal.returns-then-few-eq0
unfolding few_sum sum_to
returns-then-few-eq0 c = λ v k l m.
    let x = slice_index c.args.sums.now (v * c.args.matrix.now.width + k) in
    let bit = bit_at c.args.pattern (c.args.count - 1 - v) in
    let none : bit * 0 ≡ 0 = omega arith in
    let term : ℕ → ℕ = λ i. column c.args.matrix.now.rows k (slice_index c.args.few.rows i) in
    sym (ap (λ n. x ⊕ bit * sum_to term n) c.if-few-eq0.true ∙ ap (◌⊕◌ x) none ∙ add_zero x)

pub returns : goal.returns
returns c = λ v k l m.
    let size : length c.put_few.new.sum ≡ c.args.matrix.now.width = omega arith in
    let bit = bit_at c.args.pattern (c.args.count - 1 - v) in
    subst (λ w. (v k : ℕ) → v < c.args.count → k < w → slice_index c.add_to_asked.new.sums (v * w + k)
    ≡ slice_index c.args.sums.now (v * w + k) ⊕ bit_at c.args.pattern (c.args.count - 1 - v) * slice_index c.put_few.new.sum k)
    size c.add_to_asked.ensures v k l m
    ∙ ap (λ s. slice_index c.args.sums.now (v * c.args.matrix.now.width + k) ⊕ bit * s) (c.put_few.ensures k)

pub put_few-requires-clause-rows : goal.put_few-requires-clause-rows
put_few-requires-clause-rows c = c.requires.rows

pub put_few-requires-clause-room : goal.put_few-requires-clause-room
put_few-requires-clause-room c = c.requires.eight

pub add_to_asked-requires-clause-few : goal.add_to_asked-requires-clause-few
add_to_asked-requires-clause-few c = c.requires.few

pub add_to_asked-requires-clause-room : goal.add_to_asked-requires-clause-room
add_to_asked-requires-clause-room c = c.requires.room ∙ ap (λ w. c.args.count * w) (sym (c.put_few.auto.sum ∙ c.requires.eight))
