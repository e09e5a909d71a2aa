use Rattle.std.proofs.Common.{◌≡◌, ℕ, ◌-◌, ◌<◌, ◌≤◌, List, [], ◌∷◌, ◌++◌, length, map, drop, ◌∙◌, ap, subst, sym, arith}
use Rattle.std.specs.Prelude.{Option, Some}
use Rattle.std.specs.Option.{option_map}
use Rattle.wire_frames.specs.Records.{Kept, closed_by}
use Rattle.wire_frames.specs.declared.records.Span.{Span}
use Rattle.wire_frames.proofs.Spans.{at_span, at_spans-push, lie-push, to_end, none_behind, room_kept, has_room, full_now}
use Rattle.wire_frames.proofs.records.Records.close_present.Goals as goal

at_most : {n m : ℕ} → n ≡ m → n ≤ m
at_most is = omega (arith, is)

pub unreachable-requires : goal.unreachable-requires
unreachable-requires c =
    let room = subst (λ (k : Kept). 0 < k.record_room) (sym c.self.view_is) c.requires in
    has_room _ 1 _ _ room c.self.invariant.0 (full_now _ _ c.in-Err.ensures.full)

pub invariant_of-self : goal.invariant_of-self
invariant_of-self c =
    let room = subst (λ (k : Kept). 0 < k.record_room) (sym c.self.view_is) c.requires in
    let bytes = c.self.inside.bytes.items in
    let end : c.len-end.result ≡ length bytes = c.len-end.ensures ∙ c.self.inside.bytes.ok.0 in
    let span = Some (record { start = c.self.inside.start; end = c.len-end.result }) in
    let lie = lie-push bytes c.self.inside.closed.items c.push.new.self.items span c.in-Ok.ensures.items c.self.invariant.3 (subst (λ (n : ℕ). c.self.inside.start ≤ n) (sym end) c.self.invariant.2, at_most end) in
    (room_kept _ 1 _ _ _ _ c.in-Ok.ensures.len room c.self.invariant.0 c.in-Ok.ensures.capacity, c.self.invariant.1, at_most end, lie, c.self.invariant.4)

pub returns : goal.returns
returns c =
    let bytes = c.self.inside.bytes.items in
    let start = c.self.inside.start in
    let end : c.len-end.result ≡ length bytes = c.len-end.ensures ∙ c.self.inside.bytes.ok.0 in
    let spans = c.self.inside.closed.items in
    let span : Option Span = Some (record { start = start; end = c.len-end.result }) in
    let closed : map (option_map (at_span bytes)) c.push.new.self.items ≡ map (option_map (at_span bytes)) spans ++ Some (drop start bytes) ∷ [] =
    at_spans-push bytes spans c.push.new.self.items span c.in-Ok.ensures.items ∙ ap (λ (l : List ℕ). map (option_map (at_span bytes)) spans ++ Some l ∷ []) (to_end bytes start c.len-end.result end) in
    let current : drop c.len-end.result bytes ≡ [] = none_behind bytes c.len-end.result end in
    (λ i. record {
      closed = closed i;
      current = current i;
      record_room = c.self.inside.record_room - 1;
      byte_room = c.self.inside.byte_room;
    }) ∙ ap (λ (k : Kept). closed_by (Some k.current) k) c.self.view_is

pub overflow_sub-self : goal.overflow_sub-self
overflow_sub-self c = subst (λ (k : Kept). 0 < k.record_room) (sym c.self.view_is) c.requires
