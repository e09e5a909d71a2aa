use Rattle.std.proofs.Common.{ℕ, ◌≡◌, ◌++◌, ◌<◌, ◌≤◌, List, length, min, take, ap, subst, arith, length-append, length-drop}
use Rattle.std.proofs.lemmas.List.{take_rest}
use Rattle.wire_frames.specs.RecordsReader.{bytes_so_far}
use Rattle.wire_frames.proofs.HeaderPieces.{piece_after, piece_refuses, piece_goes_on, none_taken, whole_feeds, whole_refuses}
use Rattle.wire_frames.proofs.PartialHeaders.{filled_short}
use Rattle.wire_frames.proofs.reader.feed_header.Goals as goal

-- no byte before the piece is lost
before_filled : (old piece filled : List ℕ) (count before : ℕ) → before ≡ length old → filled ≡ old ++ take count piece → before ≤ length filled
before_filled old piece filled count before is_before is = omega (arith, is_before, ap length is, length-append old (take count piece))

few_taken : (count size len : ℕ) → count ≡ min size len → count ≤ len
few_taken count size len is = omega (arith, is)

pub read_header-requires : goal.read_header-requires
read_header-requires c = filled_short c.args.head.now c.args.piece.now c.as_slice.result.now c.fill-count.new.self c.fill-count.result _ c.as_slice.ensures c.fill-count.ensures.bytes c.fill-count.ensures.count c.requires.short

pub new-requires : goal.new-requires
new-requires c = c.in-Ok.ensures.range

pub truncate-requires : goal.truncate-requires
truncate-requires c = before_filled c.args.head.now c.args.piece.now c.fill-count.new.self c.fill-count.result c.len-before.result c.len-before.ensures c.fill-count.ensures.bytes

pub slice_bounds-feed-start : goal.slice_bounds-feed-start
slice_bounds-feed-start c = few_taken _ _ _ c.fill-count.ensures.count

pub feed-requires : goal.feed-requires
feed-requires c = c.in-Ok-new.ensures.«open»

pub overflow_add-result : goal.overflow_add-result
overflow_add-result c =
    omega (arith, c.in-Err-feed.ensures.bytes.before, ap length (take_rest c.args.piece.now c.fill-count.result), length-drop c.fill-count.result c.args.piece.now, c.fill-count.ensures.count)

pub returns-in_default : goal.returns-in_default
returns-in_default c =
    none_taken c.args.head.now c.args.piece.now c.fill-count.new.self c.as_slice.result.now c.truncate.new.self c.fill-count.result c.len-before.result c.in-Ok.params
    c.truncate.ensures c.len-before.ensures c.fill-count.ensures.bytes c.as_slice.ensures c.in-Ok.ensures

pub overflow_sub-result : goal.overflow_sub-result
overflow_sub-result c =
    let after = piece_after c.args.head.now c.args.piece.now c.fill-count.result c.fill-count.new.self c.as_slice.result.now c.in-Err.place record { short = c.requires.short; right = c.requires.right; count_is = c.fill-count.ensures.count; head_is = c.fill-count.ensures.bytes } c.as_slice.ensures c.in-Err.ensures in
    omega (arith, after, c.len-before.ensures)

pub returns-then-place-len : goal.returns-then-place-len
returns-then-place-len c =
    piece_refuses c.args.head.now c.args.piece.now c.fill-count.result c.len-before.result c.fill-count.new.self c.as_slice.result.now c.in-Err.place record { short = c.requires.short; right = c.requires.right; count_is = c.fill-count.ensures.count; head_is = c.fill-count.ensures.bytes } c.as_slice.ensures c.len-before.ensures c.in-Err.ensures
    (subst (λ (n : ℕ). c.in-Err.place < n) c.len.ensures c.if-place-len.true)

pub returns-else-place-len : goal.returns-else-place-len
returns-else-place-len c =
    piece_goes_on c.args.head.now c.args.piece.now c.fill-count.result c.fill-count.new.self c.as_slice.result.now c.in-Err.place record { short = c.requires.short; right = c.requires.right; count_is = c.fill-count.ensures.count; head_is = c.fill-count.ensures.bytes } c.as_slice.ensures c.in-Err.ensures
    (subst (λ (n : ℕ). n ≤ c.in-Err.place) c.len.ensures c.if-place-len.false)

pub returns-in-Ok-feed : goal.returns-in-Ok-feed
returns-in-Ok-feed c =
    let fed = c.in-Ok-feed.ensures.bytes in
    (c.in-Ok-feed.ensures.«open», whole_feeds c.args.head.now c.args.piece.now c.fill-count.result c.fill-count.new.self c.as_slice.result.now (bytes_so_far c.in-Ok-new.records) c.in-Ok.params (bytes_so_far c.feed.new.self) record { piece_is = record { short = c.requires.short; right = c.requires.right; count_is = c.fill-count.ensures.count; head_is = c.fill-count.ensures.bytes }; read_is = c.as_slice.ensures; header = c.in-Ok.ensures; seen_is = c.in-Ok-new.ensures.bytes } fed.0, fed.1)

pub returns-in-Err-feed : goal.returns-in-Err-feed
returns-in-Err-feed c = whole_refuses c.args.head.now c.args.piece.now c.fill-count.result c.fill-count.new.self c.as_slice.result.now (bytes_so_far c.in-Ok-new.records) c.in-Ok.params c.in-Err-feed.right record { piece_is = record { short = c.requires.short; right = c.requires.right; count_is = c.fill-count.ensures.count; head_is = c.fill-count.ensures.bytes }; read_is = c.as_slice.ensures; header = c.in-Ok.ensures; seen_is = c.in-Ok-new.ensures.bytes } c.in-Err-feed.ensures.bytes
