use Rattle.std.proofs.Common.{◌≡◌, ◌∙◌, ◌<◌, ℕ, List, length, map, sym, ap, arith}
use Rattle.std.specs.Prelude.{Option, Some, None, get_or, slice_range}
use Rattle.std.specs.Option.{option_copied, option_map}
use Rattle.std.proofs.lemmas.List.{get_or-map, length-map}
use Rattle.wire_frames.specs.Records.{Kept}
use Rattle.wire_frames.specs.declared.records.Span.{Span}
use Rattle.wire_frames.proofs.Spans.{at_span}
use Rattle.wire_frames.proofs.records.Records.record.Goals as goal

-- the record that a span stands for
record_at : (bytes : List ℕ) (spans : List (Option Span)) (kept : Kept) (i : ℕ) (span : Option Span) → map (option_map (at_span bytes)) spans ≡ kept.closed → i < length kept.closed → span ≡ get_or spans i span → option_map (at_span bytes) span ≡ get_or kept.closed i None
record_at bytes spans kept i span is within here =
    let few : i < length spans = omega (arith, within, ap length is, length-map spans (option_map (at_span bytes))) in
    ap (option_map (at_span bytes)) here ∙ sym (get_or-map (option_map (at_span bytes)) spans i span None few) ∙ ap (λ (l : List (Option (List ℕ))). get_or l i None) is

pub returns-in_err-span : goal.returns-in_err-span
returns-in_err-span c =
    let kept = record_at c.self.inside.bytes.items c.self.inside.closed.items c.args.self.now c.args.i c.index.result.now (ap (λ (k : Kept). k.closed) c.self.view_is) c.requires c.index.ensures in
    ap option_copied c.from_residual.ensures ∙ sym (ap (option_map (at_span c.self.inside.bytes.items)) c.in_err-span.was) ∙ kept

pub returns : goal.returns
returns c =
    let kept = record_at c.self.inside.bytes.items c.self.inside.closed.items c.args.self.now c.args.i c.index.result.now (ap (λ (k : Kept). k.closed) c.self.view_is) c.requires c.index.ensures in
    ap (λ (l : List ℕ). Some (slice_range l c.in_ok-span.span.start c.in_ok-span.span.end)) c.deref.ensures.value ∙ sym (ap (option_map (at_span c.self.inside.bytes.items)) c.in_ok-span.was) ∙ kept
