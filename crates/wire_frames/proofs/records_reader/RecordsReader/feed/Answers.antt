use Rattle.std.proofs.Common.{ℕ, ◌+◌, ◌-◌, ◌<◌, List, ◌++◌, length, take, drop, ap, subst, sym, ◌∙◌, arith, length-drop}
use Rattle.std.specs.Prelude.{Ok}
use Rattle.std.proofs.lemmas.List.{append-nil, length-take, take_all, take_rest}
use Rattle.wire_frames.specs.RecordsReader.{Advances, Refuses, bytes_so_far}
use Rattle.wire_frames.proofs.PartialHeaders.{piece_more, refuses_more}
use Rattle.wire_frames.proofs.RecordSteps.{open_begins}
use Rattle.wire_frames.proofs.Spellings.{from_zero}
use Rattle.wire_frames.proofs.records_reader.RecordsReader.feed.Goals as goal

-- after each step fewer bytes are left
fewer_left : (at count len : ℕ) → at < len → 0 < count → len - (at + count) < len - at
fewer_left at count len before some = omega (arith, before, some)

-- before the end there is a rest
some_rest : (piece : List ℕ) (at : ℕ) → at < length piece → 0 < length (take (length piece - at) (drop at piece))
some_rest piece at before = omega (arith, before, length-take (length piece - at) (drop at piece), length-drop at piece)

pub loop-at-preserved : goal.loop-at-preserved
loop-at-preserved c =
    let so_far = c.loop-at.invariant in
    let rest = take_rest c.args.piece.now c.loop-at.at in
    let step = subst (λ (l : List ℕ). Advances (bytes_so_far c.loop-at.self) l (Ok c.in-Ok.count) (bytes_so_far c.advance.new.self)) rest c.in-Ok.ensures.bytes in
    record {
      reach = omega (arith, step.1, length-drop c.loop-at.at c.args.piece.now);
      «open» = c.in-Ok.ensures.«open»;
      seen = piece_more (bytes_so_far c.args.self.now) (bytes_so_far c.loop-at.self) (bytes_so_far c.advance.new.self) c.args.piece.now c.loop-at.at c.in-Ok.count so_far.seen step.2;
    }

pub returns-in-Err-clause-bytes : goal.returns-in-Err-clause-bytes
returns-in-Err-clause-bytes c =
    let rest = take_rest c.args.piece.now c.loop-at.at in
    let step = subst (λ (l : List ℕ). Refuses (bytes_so_far c.loop-at.self) l c.in-Err.right) rest c.in-Err.ensures.bytes in
    refuses_more (bytes_so_far c.args.self.now) (bytes_so_far c.loop-at.self) c.args.piece.now c.loop-at.at c.in-Err.right c.loop-at.invariant.seen step

pub returns-clause-bytes : goal.returns-clause-bytes
returns-clause-bytes c =
    let all = take_all c.loop-at.at c.args.piece.now c.loop-at-test.false in
    (c.loop-at.invariant.seen ∙ ap (λ (l : List ℕ). bytes_so_far c.args.self.now ++ l) all, open_begins c.loop-at.self c.loop-at.invariant.«open»)

pub loop-at-init : goal.loop-at-init
loop-at-init c = record {
  reach = from_zero (length c.args.piece.now);
  «open» = c.requires;
  seen = sym (append-nil (bytes_so_far c.args.self.now));
}

pub loop-at-smaller : goal.loop-at-smaller
loop-at-smaller c = fewer_left _ _ _ c.loop-at-test.true c.in-Ok.ensures.bytes.0

pub advance-requires-clause-open : goal.advance-requires-clause-open
advance-requires-clause-open c = c.loop-at.invariant.«open»

pub advance-requires-clause-some : goal.advance-requires-clause-some
advance-requires-clause-some c = some_rest c.args.piece.now c.loop-at.at c.loop-at-test.true

pub slice_bounds-advance-count : goal.slice_bounds-advance-count
slice_bounds-advance-count c = c.loop-at.invariant.reach
