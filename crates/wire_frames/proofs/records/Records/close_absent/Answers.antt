use Rattle.std.proofs.Common.{◌≡◌, ◌-◌, ◌<◌, [], ◌∷◌, ◌++◌, map, drop, ◌∙◌, ap, subst, sym}
use Rattle.std.specs.Prelude.{None}
use Rattle.std.specs.Option.{option_map}
use Rattle.wire_frames.specs.Records.{Kept, closed_by}
use Rattle.wire_frames.proofs.Spans.{at_span, at_spans-push, lie-push, room_kept, has_room, full_now}
use Rattle.wire_frames.proofs.records.Records.close_absent.Goals as goal

pub unreachable-requires : goal.unreachable-requires
unreachable-requires c =
    let room = subst (λ (k : Kept). 0 < k.record_room) (sym c.self.view_is) c.requires.room in
    has_room _ 1 _ _ room c.self.invariant.0 (full_now _ _ c.in-Err.ensures.full)

pub invariant_of-self : goal.invariant_of-self
invariant_of-self c =
    let room = subst (λ (k : Kept). 0 < k.record_room) (sym c.self.view_is) c.requires.room in
    let lie = lie-push c.self.inside.bytes.items c.self.inside.closed.items c.push.new.self.items None c.in-Ok.ensures.items c.self.invariant.3 tt in
    (room_kept _ 1 _ _ _ _ c.in-Ok.ensures.len room c.self.invariant.0 c.in-Ok.ensures.capacity, c.self.invariant.1, c.self.invariant.2, lie, c.self.invariant.4)

pub returns : goal.returns
returns c =
    let bytes = c.self.inside.bytes.items in
    let spans = c.self.inside.closed.items in
    let closed : map (option_map (at_span bytes)) c.push.new.self.items ≡ map (option_map (at_span bytes)) spans ++ None ∷ [] =
    at_spans-push bytes spans c.push.new.self.items None c.in-Ok.ensures.items in
    let current : drop c.self.inside.start bytes ≡ [] = ap (λ (k : Kept). k.current) c.self.view_is ∙ c.requires.empty in
    (λ i. record {
      closed = closed i;
      current = current i;
      record_room = c.self.inside.record_room - 1;
      byte_room = c.self.inside.byte_room;
    }) ∙ ap (λ (k : Kept). closed_by None k) c.self.view_is

pub overflow_sub-self : goal.overflow_sub-self
overflow_sub-self c = subst (λ (k : Kept). 0 < k.record_room) (sym c.self.view_is) c.requires.room
