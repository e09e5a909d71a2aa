use Rattle.std.proofs.Common.{◌∙◌, ap, refl, sym, subst, slice_index, arith}
use Rattle.gf256.specs.Field.{◌⊕◌}
use Rattle.gf256.proofs.Xor.{zero_add}
use Rattle.server_product.specs.Runs.{term}
use Rattle.server_product.specs.Gathered.{few_sum, three_sum, held_sum, waiting_sum, FewAreOf}
use Rattle.server_product.specs.declared.gather.UpToThree.TheVariants.{Empty, One, Two, All}
use Rattle.server_product.proofs.Gathering.{waiting-set, joined-waiting, three-gone, alike, set-are-of}
use Rattle.server_product.proofs.gather.gather.Goals as goal

pub returns-in-All-clause-sum : goal.returns-in-All-clause-sum
unfolding few_sum
returns-in-All-clause-sum c = λ k.
    let q = c.args.q.now in
    let rows = c.args.matrix.now.rows in
    let waiting = c.args.waiting.now in
    let factor = c.from-factor.result in
    let s = three_sum q rows k c.in-All.three in
    three-gone _ _ (slice_index c.args.sums.now k) (held_sum q rows k c.args.held) (waiting_sum q rows k waiting) _ s (term q rows k c.args.j)
    (c.hold.ensures.sum k)
    (waiting-set q rows k waiting factor (One c.args.j) (omega arith)
    ∙ ap (λ few. waiting_sum q rows k waiting ⊕ few_sum q rows k few ⊕ term q rows k c.args.j) c.in-All.is)

pub returns-in-Empty-clause-sum : goal.returns-in-Empty-clause-sum
unfolding few_sum
returns-in-Empty-clause-sum c = λ k.
    let q = c.args.q.now in
    let rows = c.args.matrix.now.rows in
    let waiting = c.args.waiting.now in
    let factor = c.from-factor.result in
    joined-waiting (slice_index c.args.sums.now k) (held_sum q rows k c.args.held) (waiting_sum q rows k waiting) _ (few_sum q rows k Empty) _ (term q rows k c.args.j)
    (waiting-set q rows k waiting factor (One c.args.j) (omega arith)
    ∙ ap (λ few. waiting_sum q rows k waiting ⊕ few_sum q rows k few ⊕ few_sum q rows k (One c.args.j)) c.in-Empty.is)
    (sym (zero_add (term q rows k c.args.j)))

pub returns-in-One-clause-sum : goal.returns-in-One-clause-sum
unfolding few_sum
returns-in-One-clause-sum c = λ k.
    let q = c.args.q.now in
    let rows = c.args.matrix.now.rows in
    let waiting = c.args.waiting.now in
    let factor = c.from-factor.result in
    let more = Two c.in-One.a c.args.j in
    joined-waiting (slice_index c.args.sums.now k) (held_sum q rows k c.args.held) (waiting_sum q rows k waiting) _ (few_sum q rows k (One c.in-One.a)) _ (term q rows k c.args.j)
    (waiting-set q rows k waiting factor more (omega arith)
    ∙ ap (λ few. waiting_sum q rows k waiting ⊕ few_sum q rows k few ⊕ few_sum q rows k more) c.in-One.is)
    refl

pub returns-in-Two-clause-sum : goal.returns-in-Two-clause-sum
unfolding few_sum three_sum
returns-in-Two-clause-sum c = λ k.
    let q = c.args.q.now in
    let rows = c.args.matrix.now.rows in
    let waiting = c.args.waiting.now in
    let factor = c.from-factor.result in
    let more = All record { a = c.in-Two.a; b = c.in-Two.b; c = c.args.j } in
    joined-waiting (slice_index c.args.sums.now k) (held_sum q rows k c.args.held) (waiting_sum q rows k waiting) _ (few_sum q rows k (Two c.in-Two.a c.in-Two.b)) _ (term q rows k c.args.j)
    (waiting-set q rows k waiting factor more (omega arith)
    ∙ ap (λ few. waiting_sum q rows k waiting ⊕ few_sum q rows k few ⊕ few_sum q rows k more) c.in-Two.is)
    refl

pub bounds-q-j : goal.bounds-q-j
bounds-q-j c = omega arith

pub offset_bounds-waiting-factor : goal.offset_bounds-waiting-factor
offset_bounds-waiting-factor c = omega arith

pub bounds-waiting-factor : goal.bounds-waiting-factor
bounds-waiting-factor c = omega arith

pub offset_bounds-waiting-factor-in-Empty : goal.offset_bounds-waiting-factor-in-Empty
offset_bounds-waiting-factor-in-Empty c = omega arith

pub bounds-waiting-factor-in-Empty : goal.bounds-waiting-factor-in-Empty
bounds-waiting-factor-in-Empty c = omega arith

pub offset_bounds-waiting-factor-in-One : goal.offset_bounds-waiting-factor-in-One
offset_bounds-waiting-factor-in-One c = omega arith

pub bounds-waiting-factor-in-One : goal.bounds-waiting-factor-in-One
bounds-waiting-factor-in-One c = omega arith

pub offset_bounds-waiting-factor-in-Two : goal.offset_bounds-waiting-factor-in-Two
offset_bounds-waiting-factor-in-Two c = omega arith

pub bounds-waiting-factor-in-Two : goal.bounds-waiting-factor-in-Two
bounds-waiting-factor-in-Two c = omega arith

pub offset_bounds-waiting-factor-in-All : goal.offset_bounds-waiting-factor-in-All
offset_bounds-waiting-factor-in-All c = omega arith

pub bounds-waiting-factor-in-All : goal.bounds-waiting-factor-in-All
bounds-waiting-factor-in-All c = omega arith

pub hold-requires-clause-query : goal.hold-requires-clause-query
hold-requires-clause-query c = c.requires.query

pub hold-requires-clause-room : goal.hold-requires-clause-room
hold-requires-clause-room c = c.requires.room

pub hold-requires-clause-held : goal.hold-requires-clause-held
hold-requires-clause-held c = c.requires.held

pub hold-requires-clause-three : goal.hold-requires-clause-three
hold-requires-clause-three c =
    let q = c.args.q.now in
    let factor = c.from-factor.result in
    alike q factor c.in-All.three (subst (FewAreOf q factor) c.in-All.is (c.requires.waiting factor (omega arith)))

pub returns-in-All-clause-held : goal.returns-in-All-clause-held
returns-in-All-clause-held c = c.hold.ensures.held

pub returns-in-All-clause-waiting : goal.returns-in-All-clause-waiting
returns-in-All-clause-waiting c =
    set-are-of c.args.q.now c.args.waiting.now c.from-factor.result 256 (One c.args.j) (omega arith) (omega arith, sym c.from-factor.ensures) c.requires.waiting

pub returns-in-Empty-clause-held : goal.returns-in-Empty-clause-held
returns-in-Empty-clause-held c = c.requires.held

pub returns-in-Empty-clause-waiting : goal.returns-in-Empty-clause-waiting
returns-in-Empty-clause-waiting c =
    set-are-of c.args.q.now c.args.waiting.now c.from-factor.result 256 (One c.args.j) (omega arith) (omega arith, sym c.from-factor.ensures) c.requires.waiting

pub returns-in-One-clause-held : goal.returns-in-One-clause-held
returns-in-One-clause-held c = c.requires.held

pub returns-in-One-clause-waiting : goal.returns-in-One-clause-waiting
returns-in-One-clause-waiting c =
    let q = c.args.q.now in
    let factor = c.from-factor.result in
    let one = subst (FewAreOf q factor) c.in-One.is (c.requires.waiting factor (omega arith)) in
    set-are-of q c.args.waiting.now factor 256 (Two c.in-One.a c.args.j) (omega arith) (one, (omega arith, sym c.from-factor.ensures)) c.requires.waiting

pub returns-in-Two-clause-held : goal.returns-in-Two-clause-held
returns-in-Two-clause-held c = c.requires.held

pub returns-in-Two-clause-waiting : goal.returns-in-Two-clause-waiting
returns-in-Two-clause-waiting c =
    let q = c.args.q.now in
    let factor = c.from-factor.result in
    let two = subst (FewAreOf q factor) c.in-Two.is (c.requires.waiting factor (omega arith)) in
    set-are-of q c.args.waiting.now factor 256 (All record { a = c.in-Two.a; b = c.in-Two.b; c = c.args.j }) (omega arith)
    record { a = two.0; b = two.1; c = (omega arith, sym c.from-factor.ensures) } c.requires.waiting
