use Rattle.std.proofs.Common.{◌≡◌, ◌∙◌, ℕ, ◌*◌, ◌+◌, ◌^◌, ◌<◌, Fits, w64, Bool, true, false, List, length, take, drop, bytes_eq, refl, sym, ap, ap₂, arith, ne_eqb, lit<}
use Rattle.std.proofs.lemmas.Bool.{eq-eqb}
use Rattle.std.proofs.lemmas.Nat.{mul-le}
use Rattle.std.specs.Option.{option_copied}
use Rattle.std.specs.Prelude.{◌==◌, ◌&&◌, if◌then◌else◌, Option, Some, None}
use Rattle.wire_frames.specs.Answer.{usable}
use Rattle.wire_frames.specs.Header.{answer_header}
use Rattle.wire_frames.specs.Sizes.{answer_len}
use Rattle.wire_frames.specs.declared.header.QueryHeader.{QueryHeader}
use Rattle.wire_frames.specs.declared.sizes.TheConstants.{FRAME_HEADER_LEN}
use Rattle.wire_frames.proofs.answer.usable_answer.Goals as goal
use Rattle.wire_frames.proofs.answer.usable_answer.Goals.{else-eq-via-then-eq+else-payload-len, else-eq-via-else-eq}

-- a test of two parts, of which one fails
fails_first : {A : Type 0} (a b : Bool) (o : Option A) → a ≡ false → None ≡ (if a && b then o else None)
fails_first true b o e = cc
fails_first false b o e = refl

fails_second : {A : Type 0} (a b : Bool) (o : Option A) → b ≡ false → None ≡ (if a && b then o else None)
fails_second true true o e = cc
fails_second true false o e = refl
fails_second false b o e = refl

-- bytes of another length are no usable answer
other_length : (bytes payload : List ℕ) (q : QueryHeader) (count : ℕ) → length payload + FRAME_HEADER_LEN ≡ length bytes → count ≡ q.count → (length payload ≡ count * q.s → ⊥) → None ≡ usable bytes q
other_length bytes payload q count whole is other =
    fails_second _ (length bytes == answer_len q.count q.s) _ (ne_eqb _ _ (λ e. other (omega (arith, e, whole, ap (λ (n : ℕ). n * q.s) is))))

-- nor are bytes with another header
other_header : (bytes start header : List ℕ) (q : QueryHeader) → start ≡ take FRAME_HEADER_LEN bytes → header ≡ answer_header q 0 → bytes_eq start header ≡ false → None ≡ usable bytes q
other_header bytes start header q begins is other =
    fails_first _ _ _ (ap₂ bytes_eq (sym begins) (sym is) ∙ other)

-- nor are too few bytes
too_short : (bytes : List ℕ) (q : QueryHeader) → length bytes < FRAME_HEADER_LEN → None ≡ usable bytes q
too_short bytes q short = fails_second _ (length bytes == answer_len q.count q.s) _ (ne_eqb _ _ (λ e. omega (arith, e, short)))

-- a test of two parts that both hold
holds : {A : Type 0} (a b : Bool) (o : Option A) → a ≡ true → b ≡ true → o ≡ (if a && b then o else None)
holds true true o e e' = refl
holds true false o e e' = cc
holds false b o e e' = cc

-- bytes with the right header and length are a usable answer
whole_answer : (bytes start payload header : List ℕ) (q : QueryHeader) (count : ℕ) → start ≡ take FRAME_HEADER_LEN bytes → payload ≡ drop FRAME_HEADER_LEN bytes → length payload + FRAME_HEADER_LEN ≡ length bytes
    → header ≡ answer_header q 0 → bytes_eq start header ≡ true → count ≡ q.count → length payload ≡ count * q.s → Some payload ≡ usable bytes q
whole_answer bytes start payload header q count begins ends whole is same is_count size =
    let long : length bytes ≡ answer_len q.count q.s = omega (arith, whole, size, ap (λ (n : ℕ). n * q.s) is_count) in
    ap (λ (l : List ℕ). Some l) ends ∙ holds _ _ (Some (drop FRAME_HEADER_LEN bytes)) (ap₂ bytes_eq (sym begins) (sym is) ∙ same) (eq-eqb _ _ long)

-- as many bytes as a header asks for are a word's number
fits_len : (count blocks width : ℕ) → count ≡ blocks → blocks < 2 ^ 8 → width < 2 ^ 32 → Fits w64 (count * width)
fits_len count blocks width is few narrow = omega (arith, mul-le count width (2 ^ 8) (2 ^ 32) (omega (arith, is, few)) (omega (arith, narrow)))

pub split_first_chunk-requires : goal.split_first_chunk-requires
split_first_chunk-requires c = lit< tt

pub returns-in_err-start : goal.returns-in_err-start
returns-in_err-start c = ap option_copied c.from_residual.ensures ∙ too_short c.args.bytes.now c.args.header.now c.in_err-start.ensures.cases

pub overflow_mul-len : goal.overflow_mul-len
overflow_mul-len c = fits_len c.from.result c.args.header.now.count c.args.header.now.s c.from.ensures (omega arith) (omega arith)

pub returns-then-payload-len : goal.returns-then-payload-len
returns-then-payload-len c =
    whole_answer c.args.bytes.now c.in_ok-start.start.now c.in_ok-start.payload.now c.answer_header.result c.args.header.now c.from.result c.in_ok-start.ensures.cases.0 c.in_ok-start.ensures.cases.1
    c.in_ok-start.ensures.cases.2 c.answer_header.ensures (sym c.eq.ensures ∙ c.if-eq.true) c.from.ensures c.if-payload-len.true

pub returns-else-eq : goal.returns-else-eq
returns-else-eq c = elim c.else-eq.branch [
  | else-eq-via-then-eq+else-payload-len w ↦ other_length c.args.bytes.now c.in_ok-start.payload.now c.args.header.now c.from.result c.in_ok-start.ensures.cases.2 c.from.ensures w.if-payload-len.false
  | else-eq-via-else-eq w ↦ other_header c.args.bytes.now c.in_ok-start.start.now c.answer_header.result c.args.header.now c.in_ok-start.ensures.cases.0 c.answer_header.ensures (sym c.eq.ensures ∙ w.if-eq.false)
]
