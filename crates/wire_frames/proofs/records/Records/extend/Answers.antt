use Rattle.std.proofs.Common.{◌≡◌, ◌-◌, ◌≤◌, ◌++◌, List, ℕ, length, map, drop, ◌∙◌, ap, subst, sym}
use Rattle.std.specs.Option.{option_map}
use Rattle.std.proofs.lemmas.List.{drop-append-le}
use Rattle.wire_frames.specs.Records.{Kept, extended}
use Rattle.wire_frames.proofs.Digits.{bytes_from_fits}
use Rattle.wire_frames.proofs.Spans.{at_span, at_spans-append, lies_while_more, room_kept, has_room}
use Rattle.wire_frames.proofs.records.Records.extend.Goals as goal

pub overflow_sub-self : goal.overflow_sub-self
overflow_sub-self c = subst (λ (k : Kept). length c.args.piece.now ≤ k.byte_room) (sym c.self.view_is) c.requires

pub returns : goal.returns
returns c =
    let bytes = c.self.inside.bytes.items in
    let piece = c.args.piece.now in
    let spans = c.self.inside.closed.items in
    let more : c.extend_from_slice.new.self.items ≡ bytes ++ piece = c.in-Ok.ensures.items in
    let closed : map (option_map (at_span c.extend_from_slice.new.self.items)) spans ≡ map (option_map (at_span bytes)) spans =
    ap (λ (l : List ℕ). map (option_map (at_span l)) spans) more ∙ at_spans-append bytes piece spans c.self.invariant.3 in
    let current : drop c.self.inside.start c.extend_from_slice.new.self.items ≡ drop c.self.inside.start bytes ++ piece =
    ap (drop c.self.inside.start) more ∙ drop-append-le c.self.inside.start bytes piece c.self.invariant.2 in
    (λ i. record {
      closed = closed i;
      current = current i;
      record_room = c.self.inside.record_room;
      byte_room = c.self.inside.byte_room - length piece;
    }) ∙ ap (extended piece) c.self.view_is

pub unreachable-requires : goal.unreachable-requires
unreachable-requires c =
    has_room _ (length c.args.piece.now) _ _ (subst (λ (k : Kept). length c.args.piece.now ≤ k.byte_room) (sym c.self.view_is) c.requires) c.self.invariant.1 c.in-Err.ensures.full

pub invariant_of-self : goal.invariant_of-self
invariant_of-self c =
    let piece = c.args.piece.now in
    let few = subst (λ (k : Kept). length piece ≤ k.byte_room) (sym c.self.view_is) c.requires in
    let lies = lies_while_more c.self.inside.bytes.items piece c.extend_from_slice.new.self.items c.self.inside.start c.self.inside.closed.items c.in-Ok.ensures.items c.self.invariant.2 c.self.invariant.3 c.self.invariant.4 (bytes_from_fits piece c.type_inv.piece) in
    (c.self.invariant.0, room_kept _ (length piece) _ _ _ _ c.in-Ok.ensures.len few c.self.invariant.1 c.in-Ok.ensures.capacity, lies.0, lies.1, lies.2)
