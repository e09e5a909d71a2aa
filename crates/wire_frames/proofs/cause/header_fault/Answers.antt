use Rattle.std.proofs.Common.{◌≡◌, ◌∙◌, ℕ, List, sym, ap, arith, ne_eqb, refl}
use Rattle.std.specs.Prelude.{Option, Some, None, slice_index}
use Rattle.wire_frames.specs.declared.cause.AnswerField.{AnswerField}
use Rattle.wire_frames.specs.declared.cause.Cause.TheVariants.{Refused}
use Rattle.wire_frames.specs.declared.header.QueryHeader.{QueryHeader}
use Rattle.wire_frames.specs.declared.places.TheConstants.{FRAME_STATUS_PLACE}
use Rattle.wire_frames.specs.Cause.{cause_by, header_fault, other_field}
use Rattle.wire_frames.specs.Header.{answer_header}
use Rattle.wire_frames.proofs.cause.header_fault.Goals as goal

-- the fault of a header, by its first wrong field
by_field : (start right : List ℕ) (q : QueryHeader) (found field : Option AnswerField) → right ≡ answer_header q 0 → found ≡ other_field start right → found ≡ field → cause_by field (slice_index start FRAME_STATUS_PLACE) ≡ header_fault start q
unfolding header_fault
by_field start right q found field is told e = ap (λ (o : Option AnswerField). cause_by o (slice_index start FRAME_STATUS_PLACE)) (sym e ∙ told ∙ ap (other_field start) is)

refused : (status : ℕ) → (status ≡ 0 → ⊥) → Refused status ≡ cause_by None status
refused status other = rw (ne_eqb status 0 other) refl

pub returns-in-Some : goal.returns-in-Some
returns-in-Some c = by_field c.args.start.now c.answer_header.result c.args.header.now c.other_field.result (Some c.in-Some.field) c.answer_header.ensures c.other_field.ensures c.in-Some.is

pub returns-in-0 : goal.returns-in-0
returns-in-0 c =
    sym (ap (cause_by None) c.in-0.is)
    ∙ by_field c.args.start.now c.answer_header.result c.args.header.now c.other_field.result None c.answer_header.ensures c.other_field.ensures c.in-None.is

pub returns-in_default : goal.returns-in_default
returns-in_default c =
    refused (slice_index c.args.start.now FRAME_STATUS_PLACE) (λ e. omega (arith, e))
    ∙ by_field c.args.start.now c.answer_header.result c.args.header.now c.other_field.result None c.answer_header.ensures c.other_field.ensures c.in-None.is
