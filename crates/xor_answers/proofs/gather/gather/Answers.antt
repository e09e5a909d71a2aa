use Rattle.std.proofs.Common.{◌≡◌, ℕ, ◌+◌, ◌-◌, ◌*◌, ◌<◌, slice_index, slice_index_or, length, subst, sym, ap, ◌∙◌, arith}
use Rattle.std.specs.Int.{bit_at}
use Rattle.std.proofs.lemmas.Nat.Bits.{bit_at-lt}
use Rattle.gf256.specs.Field.{◌⊕◌}
use Rattle.gf256.proofs.Xor.{add_self}
use Rattle.xor_answers.specs.Waiting.{column, no_rows, few_sum, waiting_at, AreRows}
use Rattle.xor_answers.proofs.WaitingSums.{waiting-set, joined, none-sum, none-are, are-set, eight-gone, none-asked}
use Rattle.xor_answers.proofs.gather.gather.Goals as goal

pub returns-then-few-lt7-clause-sum : goal.returns-then-few-lt7-clause-sum
returns-then-few-lt7-clause-sum c = λ v k l m.
    let rows = c.args.matrix.now.rows in
    let waiting = c.args.waiting.now in
    let p = c.args.asked.pattern in
    let i = c.args.count - 1 - v in
    let t = column rows k c.args.asked.row in
    joined (slice_index c.args.sums.now (v * c.args.matrix.now.width + k)) (waiting_at rows waiting i k) _ (bit_at p i * t)
    (waiting-set rows waiting i k p t c.with.result (omega arith) (omega arith) (c.with.ensures.sum rows k))

pub returns-then-few-lt7-clause-waiting : goal.returns-then-few-lt7-clause-waiting
returns-then-few-lt7-clause-waiting c =
    let rows = length c.args.matrix.now.rows in
    are-set rows c.args.waiting.now c.args.asked.pattern c.with.result (omega arith)
    (c.with.ensures.rows rows (c.requires.waiting c.args.asked.pattern (omega arith)) c.requires.row) c.requires.waiting

pub returns-else-few-lt7-clause-waiting : goal.returns-else-few-lt7-clause-waiting
returns-else-few-lt7-clause-waiting c =
    let rows = length c.args.matrix.now.rows in
    are-set rows c.args.waiting.now c.args.asked.pattern c.none.result (omega arith)
    (none-are rows c.none.result c.none.ensures) c.requires.waiting

pub returns-else-few-lt7-clause-sum : goal.returns-else-few-lt7-clause-sum
returns-else-few-lt7-clause-sum c = λ v k l m.
    let rows = c.args.matrix.now.rows in
    let width = c.args.matrix.now.width in
    let waiting = c.args.waiting.now in
    let p = c.args.asked.pattern in
    let i = c.args.count - 1 - v in
    let x = slice_index c.args.sums.now (v * width + k) in
    let t = column rows k c.args.asked.row in
    let s = few_sum rows k (slice_index_or waiting p no_rows) in
    let size : length c.put_all.new.sum ≡ width = omega arith in
    eight-gone _ x (waiting_at rows waiting i k) _ (bit_at p i) s t (bit_at-lt p i)
    (subst (λ w. (v k : ℕ) → v < c.args.count → k < w → slice_index c.add_to_asked.new.sums (v * w + k)
    ≡ slice_index c.args.sums.now (v * w + k) ⊕ bit_at p (c.args.count - 1 - v) * slice_index c.put_all.new.sum k)
    size c.add_to_asked.ensures v k l m
    ∙ ap (λ y. x ⊕ bit_at p i * y) (c.put_all.ensures k m))
    (waiting-set rows waiting i k p s c.none.result (omega arith) (omega arith)
    (none-sum rows k c.none.result c.none.ensures ∙ sym (add_self s)))

pub returns-then-pattern-eq0-clause-sum : goal.returns-then-pattern-eq0-clause-sum
returns-then-pattern-eq0-clause-sum c = λ v k l m.
    none-asked (slice_index c.args.sums.now (v * c.args.matrix.now.width + k))
    (waiting_at c.args.matrix.now.rows c.args.waiting.now (c.args.count - 1 - v) k) c.args.asked.pattern _ _ c.if-pattern-eq0.true

pub returns-then-pattern-eq0-clause-waiting : goal.returns-then-pattern-eq0-clause-waiting
returns-then-pattern-eq0-clause-waiting c = c.requires.waiting

pub offset_bounds-waiting-place : goal.offset_bounds-waiting-place
offset_bounds-waiting-place c = omega arith

pub bounds-waiting-place : goal.bounds-waiting-place
bounds-waiting-place c = omega arith

pub with-requires : goal.with-requires
with-requires c = omega arith

pub offset_bounds-waiting-place-then-few-lt7 : goal.offset_bounds-waiting-place-then-few-lt7
offset_bounds-waiting-place-then-few-lt7 c = omega arith

pub bounds-waiting-place-then-few-lt7 : goal.bounds-waiting-place-then-few-lt7
bounds-waiting-place-then-few-lt7 c = omega arith

pub offset_bounds-waiting-place-else-few-lt7 : goal.offset_bounds-waiting-place-else-few-lt7
offset_bounds-waiting-place-else-few-lt7 c = omega arith

pub bounds-waiting-place-else-few-lt7 : goal.bounds-waiting-place-else-few-lt7
bounds-waiting-place-else-few-lt7 c = omega arith

pub put_all-requires-clause-seven : goal.put_all-requires-clause-seven
put_all-requires-clause-seven c =
    let rows : AreRows (length c.args.matrix.now.rows) (slice_index_or c.args.waiting.now c.args.asked.pattern no_rows) = c.requires.waiting c.args.asked.pattern (omega arith) in
    omega (arith, rows.most)

pub put_all-requires-clause-rows : goal.put_all-requires-clause-rows
put_all-requires-clause-rows c = c.requires.waiting c.args.asked.pattern (omega arith)

pub put_all-requires-clause-row : goal.put_all-requires-clause-row
put_all-requires-clause-row c = c.requires.row

pub put_all-requires-clause-room : goal.put_all-requires-clause-room
put_all-requires-clause-room c = c.requires.eight

pub add_to_asked-requires-clause-few : goal.add_to_asked-requires-clause-few
add_to_asked-requires-clause-few c = c.requires.few

pub add_to_asked-requires-clause-room : goal.add_to_asked-requires-clause-room
add_to_asked-requires-clause-room c = c.requires.room ∙ ap (λ w. c.args.count * w) (sym (c.put_all.auto.sum ∙ c.requires.eight))
