use Rattle.std.proofs.Common.{◌≡◌, ◌∙◌, ℕ, ◌+◌, ◌*◌, ◌<◌, ◌≤◌, Fits, w8, w32, Ok, Err, subst, arith, lit≤}
use Rattle.quantity_limits.specs.declared.TheConstants.{MOST_SERVERS, MOST_WIDTH}
use Rattle.wire_frames.specs.Sizes.{answer_len}
use Rattle.wire_frames.specs.Form.{Reads}
use Rattle.wire_frames.specs.Layout.{IsRecordHeader}
use Rattle.wire_frames.proofs.PartialHeaders.{filled_short}
use Rattle.wire_frames.proofs.RecordSteps.{header_after, header_reads, header_refuses, header_goes_on, header_taken}
use Rattle.wire_frames.proofs.records_reader.RecordsReader.take_header.Goals as goal

-- the length of an answer is a word
fits_answer : (count width len : ℕ) → len ≡ answer_len count width → count * width ≤ MOST_WIDTH → Fits w32 len
fits_answer count width len is few = omega (arith, is, few)

-- the index of the next record is a byte
fits_index : (len closed servers : ℕ) → len ≡ closed → closed < servers → servers ≤ MOST_SERVERS → Fits w8 (len + 1)
fits_index len closed servers is few most = omega (arith, is, few, most)

pub fill-count-requires : goal.fill-count-requires
fill-count-requires c = lit≤ tt

pub overflow_cast-index : goal.overflow_cast-index
overflow_cast-index c =
    let next = fits_index c.len.result _ _ c.len.ensures.count c.requires.few c.requires.steady.range.few_servers in
    omega (arith, next)

pub overflow_add-index : goal.overflow_add-index
overflow_add-index c = fits_index c.len.result _ _ c.len.ensures.count c.requires.few c.requires.steady.range.few_servers

pub read_record_header-requires : goal.read_record_header-requires
read_record_header-requires c = filled_short c.args.self.now.head c.args.piece.now c.as_slice.result.now c.fill-count.new.self c.fill-count.result _ c.as_slice.ensures c.fill-count.ensures.bytes c.fill-count.ensures.count c.requires.part.short

pub begin-requires-clause-steady : goal.begin-requires-clause-steady
begin-requires-clause-steady c =
    let steady = c.requires.steady in
    record {
      range = steady.range;
      few = steady.few;
      fits = steady.fits;
      below = steady.below;
      record_room = steady.record_room;
      byte_room = steady.byte_room;
    }

pub begin-requires-clause-few : goal.begin-requires-clause-few
begin-requires-clause-few c = c.requires.few

pub begin-requires-clause-none_left : goal.begin-requires-clause-none_left
begin-requires-clause-none_left c = c.requires.part.none_left

pub begin-requires-clause-none_begun : goal.begin-requires-clause-none_begun
begin-requires-clause-none_begun c = c.requires.part.none_begun

pub returns-in-Ok-clause-open : goal.returns-in-Ok-clause-open
returns-in-Ok-clause-open c = c.begin.ensures.«open»

pub returns-in-Ok-clause-bytes : goal.returns-in-Ok-clause-bytes
returns-in-Ok-clause-bytes c =
    let taken = header_taken c.args.self.now c.args.piece.now c.fill-count.result c.fill-count.new.self record { steady = c.requires.steady; part = c.requires.part; few = c.requires.few; count_is = c.fill-count.ensures.count; head_is = c.fill-count.ensures.bytes } c.requires.some in
    (taken.0, taken.1, c.begin.ensures.bytes ∙ taken.2)

pub returns-then-place-len-clause-open : goal.returns-then-place-len-clause-open
returns-then-place-len-clause-open c = tt

pub overflow_cast-most : goal.overflow_cast-most
overflow_cast-most c = fits_answer _ _ c.answer_len-most.result c.answer_len-most.ensures c.requires.steady.range.blocks.few_bytes

pub begin-requires-clause-header : goal.begin-requires-clause-header
begin-requires-clause-header c =
    header_reads c.args.self.now c.len.result c.as_slice.result.now c.fill-count.new.self (Ok c.in-Ok.len) c.len.ensures.count c.as_slice.ensures (subst (λ (k : ℕ). Reads (IsRecordHeader (c.len.result + 1) k) c.as_slice.result.now (Ok c.in-Ok.len)) c.answer_len-most.ensures c.in-Ok.ensures)

pub overflow_sub-result : goal.overflow_sub-result
overflow_sub-result c =
    let after = header_after c.args.self.now c.args.piece.now c.fill-count.result c.len.result c.fill-count.new.self c.as_slice.result.now c.in-Err.place record { steady = c.requires.steady; part = c.requires.part; few = c.requires.few; count_is = c.fill-count.ensures.count; head_is = c.fill-count.ensures.bytes } c.len.ensures.count c.as_slice.ensures (subst (λ (k : ℕ). Reads (IsRecordHeader (c.len.result + 1) k) c.as_slice.result.now (Err c.in-Err.place)) c.answer_len-most.ensures c.in-Err.ensures) in
    omega (arith, after, c.len-before.ensures)

pub returns-then-place-len-clause-bytes : goal.returns-then-place-len-clause-bytes
returns-then-place-len-clause-bytes c =
    header_refuses c.args.self.now c.args.piece.now c.fill-count.result c.len.result c.len-before.result c.fill-count.new.self c.as_slice.result.now c.in-Err.place record { steady = c.requires.steady; part = c.requires.part; few = c.requires.few; count_is = c.fill-count.ensures.count; head_is = c.fill-count.ensures.bytes } c.len.ensures.count c.as_slice.ensures c.len-before.ensures (subst (λ (k : ℕ). Reads (IsRecordHeader (c.len.result + 1) k) c.as_slice.result.now (Err c.in-Err.place)) c.answer_len-most.ensures c.in-Err.ensures)
    (subst (λ (n : ℕ). c.in-Err.place < n) c.len-in-Err.ensures c.if-place-len.true)

pub returns-else-place-len-clause-open : goal.returns-else-place-len-clause-open
returns-else-place-len-clause-open c =
    header_goes_on c.args.self.now c.args.piece.now c.fill-count.result c.len.result c.fill-count.new.self c.as_slice.result.now c.in-Err.place record { steady = c.requires.steady; part = c.requires.part; few = c.requires.few; count_is = c.fill-count.ensures.count; head_is = c.fill-count.ensures.bytes } c.len.ensures.count c.as_slice.ensures (subst (λ (k : ℕ). Reads (IsRecordHeader (c.len.result + 1) k) c.as_slice.result.now (Err c.in-Err.place)) c.answer_len-most.ensures c.in-Err.ensures)
    (subst (λ (n : ℕ). n ≤ c.in-Err.place) c.len-in-Err.ensures c.if-place-len.false)

pub returns-else-place-len-clause-bytes : goal.returns-else-place-len-clause-bytes
returns-else-place-len-clause-bytes c =
    header_taken c.args.self.now c.args.piece.now c.fill-count.result c.fill-count.new.self record { steady = c.requires.steady; part = c.requires.part; few = c.requires.few; count_is = c.fill-count.ensures.count; head_is = c.fill-count.ensures.bytes } c.requires.some
