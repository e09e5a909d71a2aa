-- What the cause of an answer says of its bytes.
use Rattle.std.proofs.Common.{◌≡◌, ◌∙◌, ℕ, zero, suc, Bool, true, false, ◌<◌, ◌≤◌, List, [], ◌∷◌, ◌++◌, length, take, drop, sym, ap, ap₂, subst, refl, arith, append-nil, eqb-true, ltb-true, ltb-false, true≢false}
use Rattle.std.specs.Prelude.{Option, Some, None, is_some, not, nat_lt, slice_index, slice_range, bytes_eq, if◌then◌else◌, ◌==◌}
use Rattle.std.proofs.lemmas.List.{drop_all, length-take}
use Rattle.std.proofs.lemmas.List.Folds.{drop_split}
use Rattle.std.proofs.lemmas.Slice.Eq.{bytes_eq-Decides}
use Rattle.wire_frames.specs.declared.cause.AnswerField.{AnswerField}
use Rattle.wire_frames.specs.declared.cause.AnswerField.TheVariants.{Magic, Version, Scheme, Index, Session, Rows, Width}
use Rattle.wire_frames.specs.declared.header.QueryHeader.{QueryHeader}
use Rattle.wire_frames.specs.declared.cause.Cause.TheVariants.{Cut, Refused, Length}
use Rattle.wire_frames.specs.Answer.{usable}
use Rattle.wire_frames.specs.Cause.{Tells, cause_by, fault_of, header_fault, is_other, other_field}
use Rattle.wire_frames.specs.Sizes.{answer_len}
use Rattle.wire_frames.specs.Header.{answer_header}

-- the parts of a header, one after another
parts : (xs : List ℕ) → length xs ≡ 24
    → xs ≡ slice_range xs 0 4 ++ (slice_range xs 4 5 ++ (slice_range xs 5 6 ++ (slice_range xs 6 7 ++ (slice_range xs 7 8
    ++ (slice_range xs 8 16 ++ (slice_range xs 16 20 ++ slice_range xs 20 24))))))
parts xs size =
    drop_split xs 0 4 (omega arith) ∙ ap (λ r. slice_range xs 0 4 ++ r) (
    drop_split xs 4 5 (omega arith) ∙ ap (λ r. slice_range xs 4 5 ++ r) (
    drop_split xs 5 6 (omega arith) ∙ ap (λ r. slice_range xs 5 6 ++ r) (
    drop_split xs 6 7 (omega arith) ∙ ap (λ r. slice_range xs 6 7 ++ r) (
    drop_split xs 7 8 (omega arith) ∙ ap (λ r. slice_range xs 7 8 ++ r) (
    drop_split xs 8 16 (omega arith) ∙ ap (λ r. slice_range xs 8 16 ++ r) (
    drop_split xs 16 20 (omega arith) ∙ ap (λ r. slice_range xs 16 20 ++ r) (
    drop_split xs 20 24 (omega arith) ∙ ap (λ r. slice_range xs 20 24 ++ r) (drop_all 24 xs (omega arith)) ∙ append-nil (slice_range xs 20 24))))))))

-- the parts of the header of an answer, but its status, are those of any other status
same_parts : (q : QueryHeader) (status : ℕ) → slice_range (answer_header q status) 8 16 ≡ slice_range (answer_header q 0) 8 16
same_parts q status = refl

-- the header of an answer has 24 bytes
same_size : (q : QueryHeader) (status : ℕ) → length (answer_header q status) ≡ 24
same_size q status = refl

-- what is false when it is denied is true
not_false : (b : Bool) → not b ≡ false → b ≡ true
not_false true e = refl
not_false false e = sym e

-- parts that are no others are the same
same : (xs ys : List ℕ) (from to : ℕ) → is_other xs ys from to ≡ false → slice_range xs from to ≡ slice_range ys from to
unfolding is_other
same xs ys from to e = (bytes_eq-Decides (slice_range xs from to) (slice_range ys from to)).0 (not_false (bytes_eq (slice_range xs from to) (slice_range ys from to)) e)

-- an option holds a value
IsFull : Option AnswerField → Type 0
IsFull None = ⊥
IsFull (Some f) = Unit {0}

-- a field is not the want of one
some_none : (f : AnswerField) → Some f ≡ None → ⊥
unfolding IsFull
some_none f e = subst IsFull e tt

-- no field is another
none_other : (b : Bool) (f : AnswerField) (rest : Option AnswerField) → (if b then Some f else rest) ≡ None → (b ≡ false) × (rest ≡ None)
none_other true f rest e = absurd (some_none f e)
none_other false f rest e = (refl, e)

-- the part of one place
one_place : (xs : List ℕ) (n : ℕ) → n < length xs → take 1 (drop n xs) ≡ slice_index xs n ∷ []
one_place [] n lt = absurd (omega (arith, lt))
one_place (x ∷ xs) zero lt = refl
one_place (x ∷ xs) (suc n) lt = one_place xs n (omega (arith, lt))

-- a header no field of which is another is that of an answer, with its status
whole : (start : List ℕ) (q : QueryHeader) → length start ≡ 24 → other_field start (answer_header q 0) ≡ None
    → start ≡ answer_header q (slice_index start 7)
unfolding other_field
whole start q size e =
    let h = answer_header q 0 in
    let e0 = none_other (is_other start h 0 4) Magic _ e in
    let e1 = none_other (is_other start h 4 5) Version _ e0.1 in
    let e2 = none_other (is_other start h 5 6) Scheme _ e1.1 in
    let e3 = none_other (is_other start h 6 7) Index _ e2.1 in
    let e4 = none_other (is_other start h 8 16) Session _ e3.1 in
    let e5 = none_other (is_other start h 16 20) Rows _ e4.1 in
    let e6 = none_other (is_other start h 20 24) Width _ e5.1 in
    parts start size
    ∙ ap₂ (λ xs ys. xs ++ ys) (same start h 0 4 e0.0) (ap₂ (λ xs ys. xs ++ ys) (same start h 4 5 e1.0)
    (ap₂ (λ xs ys. xs ++ ys) (same start h 5 6 e2.0) (ap₂ (λ xs ys. xs ++ ys) (same start h 6 7 e3.0)
    (ap₂ (λ xs ys. xs ++ ys) (one_place start 7 (omega arith)) (ap₂ (λ xs ys. xs ++ ys) (same start h 8 16 e4.0)
    (ap₂ (λ xs ys. xs ++ ys) (same start h 16 20 e5.0) (same start h 20 24 e6.0)))))))

-- equal parts are no others
no_other_part : (xs ys : List ℕ) (from to : ℕ) → slice_range xs from to ≡ slice_range ys from to → is_other xs ys from to ≡ false
unfolding is_other
no_other_part xs ys from to e = ap not ((bytes_eq-Decides (slice_range xs from to) (slice_range ys from to)).1 e)

-- no field of the header of an answer is another
no_other : (q : QueryHeader) (status : ℕ) → other_field (answer_header q status) (answer_header q 0) ≡ None
unfolding other_field
no_other q status =
    let a = answer_header q status in
    let h = answer_header q 0 in
    rw (
      no_other_part a h 0 4 refl,
      no_other_part a h 4 5 refl,
      no_other_part a h 5 6 refl,
      no_other_part a h 6 7 refl,
      no_other_part a h 8 16 refl,
      no_other_part a h 16 20 refl,
      no_other_part a h 20 24 refl,
    ) refl

-- equal numbers are found equal
eqb-refl_of : (a b : ℕ) → a ≡ b → (a == b) ≡ true
eqb-refl_of a b e = grind (arith, e)

-- bytes with the header of an answer of status 0, and as many as such an answer has, are usable
usable_when : (bytes : List ℕ) (q : QueryHeader) → take 24 bytes ≡ answer_header q 0 → length bytes ≡ answer_len q.count q.s
    → is_some (usable bytes q) ≡ true
usable_when bytes q e size =
    rw ((bytes_eq-Decides (take 24 bytes) (answer_header q 0)).1 e, eqb-refl_of (length bytes) (answer_len q.count q.s) size) refl

-- what a header that isn't usable says, by whether its status is 0
told_by_zero : (bytes : List ℕ) (q : QueryHeader) (status : ℕ) (b : Bool) → (status == 0) ≡ b → take 24 bytes ≡ answer_header q status
    → is_some (usable bytes q) ≡ false → Tells (if b then Length else Refused status) bytes q
told_by_zero bytes q status true z e not_usable =
    let ok = e ∙ ap (answer_header q) (eqb-true status 0 z) in
    (ok, λ size. true≢false (sym (usable_when bytes q ok size) ∙ not_usable))
told_by_zero bytes q status false z e not_usable = (λ is. true≢false (sym (eqb-refl_of status 0 is) ∙ z), e)

-- the cause that is named for the first wrong field, or for the status, says what is so of the bytes
told_by_field : (bytes : List ℕ) (q : QueryHeader) (o : Option AnswerField) → 24 ≤ length bytes
    → other_field (take 24 bytes) (answer_header q 0) ≡ o → is_some (usable bytes q) ≡ false
    → Tells (cause_by o (slice_index (take 24 bytes) 7)) bytes q
told_by_field bytes q None size e not_usable =
    let status = slice_index (take 24 bytes) 7 in
    told_by_zero bytes q status (status == 0) refl (whole (take 24 bytes) q (omega (arith, size, length-take 24 bytes)) e) not_usable
told_by_field bytes q (Some field) size e not_usable =
    λ status is. some_none field (sym e ∙ ap (λ xs. other_field xs (answer_header q 0)) is ∙ no_other q status)

-- and so does the one that is named by whether the bytes are fewer than a header
told_by_size : (bytes : List ℕ) (q : QueryHeader) (short : Bool) → nat_lt (length bytes) 24 ≡ short → is_some (usable bytes q) ≡ false
    → Tells (if short then Cut else header_fault (take 24 bytes) q) bytes q
unfolding header_fault
told_by_size bytes q true e not_usable = ltb-true (length bytes) 24 e
told_by_size bytes q false e not_usable = told_by_field bytes q (other_field (take 24 bytes) (answer_header q 0)) (ltb-false (length bytes) 24 e) refl not_usable

-- what is said of bytes that are no usable answer
pub tells_fault : (bytes : List ℕ) (q : QueryHeader) → is_some (usable bytes q) ≡ false → Tells (fault_of bytes q) bytes q
unfolding fault_of
tells_fault bytes q not_usable = told_by_size bytes q (nat_lt (length bytes) 24) refl not_usable
