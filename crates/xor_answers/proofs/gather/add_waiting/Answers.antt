use Rattle.std.proofs.Common.{◌≡◌, ◌+◌, ◌-◌, ◌*◌, slice_index, sym, ap, ◌∙◌, arith, add-one}
use Rattle.gf256.specs.Field.{◌⊕◌}
use Rattle.gf256.specs.Sums.{sum_to}
use Rattle.gf256.proofs.Xor.{add_zero, add_assoc}
use Rattle.xor_answers.specs.Waiting.{from_waiting, waiting_at}
use Rattle.xor_answers.proofs.gather.add_waiting.Goals as goal

pub loop-pattern-init : goal.loop-pattern-init
unfolding sum_to
loop-pattern-init c = λ v k l m. sym (add_zero _)

pub loop-pattern-preserved : goal.loop-pattern-preserved
unfolding sum_to from_waiting
loop-pattern-preserved c = λ v k l m.
    let f = from_waiting c.args.matrix.now.rows c.args.waiting.now (c.args.count - 1 - v) k in
    let p = c.loop-pattern.pattern in
    let old = slice_index c.args.sums.now (v * c.args.matrix.now.width + k) in
    c.add_few.ensures v k l m
    ∙ ap (λ s. s ⊕ f p) (c.loop-pattern.invariant v k l m)
    ∙ add_assoc old (sum_to f p) (f p)
    ∙ ap (λ n. old ⊕ sum_to f n) (sym (add-one p))

pub returns : goal.returns
unfolding waiting_at
returns c = λ v k l m.
    let f = from_waiting c.args.matrix.now.rows c.args.waiting.now (c.args.count - 1 - v) k in
    let end : c.loop-pattern.pattern ≡ 256 = omega arith in
    c.loop-pattern.invariant v k l m ∙ ap (λ n. slice_index c.args.sums.now (v * c.args.matrix.now.width + k) ⊕ sum_to f n) end

pub offset_bounds-waiting-pattern : goal.offset_bounds-waiting-pattern
offset_bounds-waiting-pattern c = omega arith

pub bounds-waiting-pattern : goal.bounds-waiting-pattern
bounds-waiting-pattern c = omega arith

pub overflow_cast-pattern : goal.overflow_cast-pattern
overflow_cast-pattern c = omega arith

pub add_few-requires-clause-few : goal.add_few-requires-clause-few
add_few-requires-clause-few c = c.requires.few

pub add_few-requires-clause-rows : goal.add_few-requires-clause-rows
add_few-requires-clause-rows c = c.requires.waiting c.loop-pattern.pattern (omega arith)

pub add_few-requires-clause-eight : goal.add_few-requires-clause-eight
add_few-requires-clause-eight c = c.loop-pattern.auto.eight ∙ c.requires.eight

pub add_few-requires-clause-room : goal.add_few-requires-clause-room
add_few-requires-clause-room c = omega arith

pub loop-pattern-smaller : goal.loop-pattern-smaller
loop-pattern-smaller c = omega arith
