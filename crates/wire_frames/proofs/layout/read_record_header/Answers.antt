use Rattle.std.proofs.Common.{◌≡◌, ℕ, ◌≤◌, subst, arith, le_refl, lit≤, lit<}
use Rattle.wire_frames.specs.Layout.{IsRecordHeader}
use Rattle.wire_frames.proofs.Chains.{Leads, leads-start, leads-on, leads-stop, leads-done, no_more}
use Rattle.wire_frames.proofs.Spellings.{fits_word, is_field, from_zero}
use Rattle.wire_frames.proofs.Prefixes.{reads-exit}
use Rattle.wire_frames.proofs.RecordLayout.{at_len, record_into, record_back, some_present, some_len, to_present, to_len}
use Rattle.wire_frames.proofs.layout.read_record_header.Goals as goal

-- a record is present where it isn't absent
is_one : {present : ℕ} → present ≤ 1 → (present ≡ 0 → ⊥) → present ≡ 1
is_one most some = omega (arith, most, some)

pub number_at-requires : goal.number_at-requires
number_at-requires c = is_field _ _ _ (lit≤ tt) (le_refl c.args.index) c.ranges.index.fits

pub number_at-requires-2 : goal.number_at-requires-2
number_at-requires-2 c = is_field _ _ _ (lit≤ tt) (lit≤ tt) (lit< tt)

pub number_at-requires-3 : goal.number_at-requires-3
number_at-requires-3 c = is_field _ _ _ (lit≤ tt) (from_zero c.args.most) c.ranges.most.fits

pub number_at-requires-then-present-eq0 : goal.number_at-requires-then-present-eq0
number_at-requires-then-present-eq0 c = is_field _ _ _ (lit≤ tt) (lit≤ tt) (lit< tt)

pub overflow_cast-result : goal.overflow_cast-result
overflow_cast-result c = fits_word c.in_ok-len.ensures.most c.ranges.most.fits

pub returns-in_err-number_at : goal.returns-in_err-number_at
returns-in_err-number_at c =
    let start = leads-start c.args.bytes.now (record_into c.args.index c.args.most c.ranges.index.fits) (record_back c.args.index c.args.most c.ranges.index.fits) in
    reads-exit c.from_residual.result _ c.from_residual.ensures.1 (leads-stop start (λ _ _ _. some_present c.args.most) c.in_err-number_at.ensures)

pub returns-in_err-present : goal.returns-in_err-present
returns-in_err-present c =
    let index = to_present c.args.index c.args.most c.args.bytes.now _ c.ranges.index.fits c.in_ok-number_at.ensures in
    reads-exit c.from_residual-in_err-present.result _ c.from_residual-in_err-present.ensures.1 (leads-stop index (λ v _ _. some_len c.args.most v) c.in_err-present.ensures)

pub returns-in_err-number_at-2 : goal.returns-in_err-number_at-2
returns-in_err-number_at-2 c =
    let present = to_len (to_present c.args.index c.args.most c.args.bytes.now _ c.ranges.index.fits c.in_ok-number_at.ensures) c.in_ok-present.ensures in
    let none : c.in_ok-present.present ≡ 0 = c.if-present-eq0.true in
    let absent = subst (λ (v : ℕ). Leads (IsRecordHeader c.args.index c.args.most) (at_len c.args.most v) 2 c.args.bytes.now) none present in
    reads-exit c.from_residual-in_err-number_at-2.result _ c.from_residual-in_err-number_at-2.ensures.1 (leads-stop absent (λ _ _ _. no_more _) c.in_err-number_at-2.ensures)

pub returns-in_err-len : goal.returns-in_err-len
returns-in_err-len c =
    let one : c.in_ok-present.present ≡ 1 = is_one c.in_ok-present.ensures.most c.if-present-eq0.false in
    let present = to_len (to_present c.args.index c.args.most c.args.bytes.now _ c.ranges.index.fits c.in_ok-number_at.ensures) c.in_ok-present.ensures in
    let whole = subst (λ (v : ℕ). Leads (IsRecordHeader c.args.index c.args.most) (at_len c.args.most v) 2 c.args.bytes.now) one present in
    reads-exit c.from_residual-in_err-len.result _ c.from_residual-in_err-len.ensures.1 (leads-stop whole (λ _ _ _. no_more _) c.in_err-len.ensures)

pub returns-then-present-eq0 : goal.returns-then-present-eq0
returns-then-present-eq0 c =
    let present = to_len (to_present c.args.index c.args.most c.args.bytes.now _ c.ranges.index.fits c.in_ok-number_at.ensures) c.in_ok-present.ensures in
    let none : c.in_ok-present.present ≡ 0 = c.if-present-eq0.true in
    let absent = subst (λ (v : ℕ). Leads (IsRecordHeader c.args.index c.args.most) (at_len c.args.most v) 2 c.args.bytes.now) none present in
    leads-done (leads-on (is_field 4 0 0 (lit≤ tt) (lit≤ tt) (lit< tt)) absent c.in_ok-number_at-2.ensures) c.requires

pub returns : goal.returns
returns c =
    let one : c.in_ok-present.present ≡ 1 = is_one c.in_ok-present.ensures.most c.if-present-eq0.false in
    let present = to_len (to_present c.args.index c.args.most c.args.bytes.now _ c.ranges.index.fits c.in_ok-number_at.ensures) c.in_ok-present.ensures in
    let whole = subst (λ (v : ℕ). Leads (IsRecordHeader c.args.index c.args.most) (at_len c.args.most v) 2 c.args.bytes.now) one present in
    leads-done (leads-on (is_field 4 0 c.args.most (lit≤ tt) (from_zero c.args.most) c.ranges.most.fits) whole c.in_ok-len.ensures) c.requires
