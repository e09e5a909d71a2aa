-- What stands before the bytes of a record, as a chain of fields.
use Rattle.std.proofs.Common.{◌≡◌, ℕ, zero, suc, ◌<◌, ◌≤◌, List, [], ◌∷◌, take, drop, refl, sym, subst, ap, ◌∙◌, arith, lit≤, lit<}
use Rattle.std.specs.Prelude.{Option, Some, None, IfSome}
use Rattle.std.specs.Int.{bytes_high_first}
use Rattle.wire_frames.specs.Field.{IsNumber}
use Rattle.wire_frames.specs.Form.{Starts}
use Rattle.wire_frames.specs.Layout.{IsRecordHeader, record_header}
use Rattle.wire_frames.proofs.Chains.{Then, IsDone, Leads, field_then, leads-start, leads-on, some_spelling, no_more}
use Rattle.wire_frames.proofs.Spellings.{only, byte_is, byte_prefix, number_is, only_prefix, joined, is_field}

-- the length of a record that is absent, or present
abbrev pub at_len : ℕ → ℕ → List ℕ → Option ℕ → Type 0
at_len most zero = Then (only 4 0) (λ _. IsDone None)
at_len most (suc _) = Then (record { width = 4; least = 0; most = most }) (λ n. IsDone (Some n))

abbrev pub at_present : ℕ → List ℕ → Option ℕ → Type 0
at_present most = Then (record { width = 1; least = 0; most = 1 }) (λ present. at_len most present)

abbrev pub at_index : ℕ → ℕ → List ℕ → Option ℕ → Type 0
at_index i most = Then (only 1 i) (λ _. at_present most)

-- a record's header is a chain of fields
pub record_into : (i most : ℕ) → i < 256 → (bytes : List ℕ) (len : Option ℕ) → IsRecordHeader i most bytes len → at_index i most bytes len
record_into i most fits bytes None h =
    let len = field_then {f = only 4 0} {next = λ _. IsDone None} _ None (number_is 4 0 0 0 (lit≤ tt) (lit≤ tt)) (record { none = refl; same = refl }) in
    let present = field_then {next = λ present. at_len most present} _ None (byte_is 0 0 1 (lit≤ tt) (lit≤ tt) (lit< tt)) len in
    let whole = field_then {next = λ _. at_present most} _ None (byte_is i i i (omega arith) (omega arith) fits) present in
    subst (λ (l : List ℕ). at_index i most l None) (sym h.spelled) whole
record_into i most fits bytes (Some n) h =
    let len = field_then {f = record { width = 4; least = 0; most = most }} {next = λ n. IsDone (Some n)} _ (Some n) (number_is 4 0 n most (omega arith) h.short) (record { none = refl; same = refl }) in
    let present = field_then {next = λ present. at_len most present} _ (Some n) (byte_is 0 1 1 (lit≤ tt) (lit≤ tt) (lit< tt)) len in
    let whole = field_then {next = λ _. at_present most} _ (Some n) (byte_is i i i (omega arith) (omega arith) fits) present in
    subst (λ (l : List ℕ). at_index i most l (Some n)) (sym h.spelled) whole

-- what the length is, and how it is spelled
len_back : (i most present : ℕ) (rest : List ℕ) (len : Option ℕ) → present ≤ 1 → at_len most present rest len
    → IfSome len (λ n. n ≤ most) × (i ∷ present ∷ rest ≡ record_header i len)
len_back i most zero rest len le h =
    let spelled = joined rest h.prefix h.rest (bytes_high_first 4 0) [] h.split (only_prefix 4 0 h.number h.prefix h.field) h.goes_on.none in
    subst (λ (o : Option ℕ). IfSome o (λ n. n ≤ most) × (i ∷ 0 ∷ rest ≡ record_header i o)) h.goes_on.same (tt, ap (λ (l : List ℕ). i ∷ 0 ∷ l) spelled)
len_back i most (suc zero) rest len le h =
    let spelled = joined rest h.prefix h.rest (bytes_high_first 4 h.number) [] h.split h.field.spelled h.goes_on.none in
    subst (λ (o : Option ℕ). IfSome o (λ n. n ≤ most) × (i ∷ 1 ∷ rest ≡ record_header i o)) h.goes_on.same (h.field.most, ap (λ (l : List ℕ). i ∷ 1 ∷ l) spelled)
len_back i most (suc (suc k)) rest len le h = absurd (omega arith)

-- the numbers in a chain of fields are those of a record's header
pub record_back : (i most : ℕ) → i < 256 → (bytes : List ℕ) (len : Option ℕ) → at_index i most bytes len → IsRecordHeader i most bytes len
record_back i most fits bytes len index =
    let present = index.goes_on in
    let end = len_back i most present.number present.rest len present.field.most present.goes_on in
    let present_is = joined index.rest present.prefix present.rest (present.number ∷ []) _ present.split (byte_prefix 0 1 present.number present.prefix (lit< tt) present.field) refl in
    let index_number : index.number ≡ i = omega (arith, index.field.least, index.field.most) in
    let index_prefix = byte_prefix i i index.number index.prefix fits index.field ∙ ap (λ (v : ℕ). v ∷ []) index_number in
    let whole = joined bytes index.prefix index.rest (i ∷ []) _ index.split index_prefix present_is in
    record { short = end.0; spelled = whole ∙ end.1 }

-- whatever came before, a record's header can be completed
pub some_len : (most present : ℕ) → Starts (at_len most present) []
some_len most zero = some_spelling _ _ 0 (lit≤ tt) (lit≤ tt) (no_more _)
some_len most (suc k) = some_spelling _ _ 0 (omega arith) (omega arith) (no_more _)

-- behind an index a byte of presence can stand, and the rest of a record's header
pub some_present : (most : ℕ) → Starts (at_present most) []
some_present most = some_spelling _ _ 0 (lit≤ tt) (lit≤ tt) (some_len most 0)

-- THE STEPS of a reading of a record's header
pub to_present : (i most : ℕ) (bytes : List ℕ) (v : ℕ) → i < 256 → IsNumber (only 1 i) (take 1 (drop 0 bytes)) v → Leads (IsRecordHeader i most) (at_present most) 1 bytes
to_present i most bytes v fits h = leads-on (is_field 1 i i (lit≤ tt) (omega arith) fits) (leads-start bytes (record_into i most fits) (record_back i most fits)) h

-- the byte of presence was read, so the length comes next
pub to_len : {i most : ℕ} {bytes : List ℕ} {v : ℕ} → Leads (IsRecordHeader i most) (at_present most) 1 bytes
    → IsNumber (record { width = 1; least = 0; most = 1 }) (take 1 (drop 1 bytes)) v → Leads (IsRecordHeader i most) (at_len most v) 2 bytes
to_len leads h = leads-on (is_field 1 0 1 (lit≤ tt) (lit≤ tt) (lit< tt)) leads h
