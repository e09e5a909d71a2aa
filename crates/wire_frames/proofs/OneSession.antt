-- The bytes of a file are of one session alone.
use Rattle.std.proofs.Common.{◌≡◌, ◌∙◌, ℕ, ◌+◌, ◌<◌, ◌^◌, List, [], ◌∷◌, length, refl, sym, ap, ap₂, subst, arith}
use Rattle.std.specs.Prelude.{Option, All}
use Rattle.std.proofs.lemmas.List.Elements.{All-head, All-tail}
use Rattle.wire_frames.specs.Sizes.{answer_len}
use Rattle.wire_frames.specs.declared.session.SessionParams.{SessionParams}
use Rattle.wire_frames.specs.Session.{Transcript, IsSession, Fits, records_bytes, header_bytes}
use Rattle.wire_frames.proofs.Parsing.{same_parts, same_params, same_record, length-header}

-- records that fit, as many, with the same bytes
same_records : (most i : ℕ) (xs ys : List (Option (List ℕ))) → most < 256 ^ 4 → All (Fits most) xs → All (Fits most) ys → length xs ≡ length ys → records_bytes i xs ≡ records_bytes i ys → xs ≡ ys
same_records most i [] [] lt hx hy size same = refl
same_records most i [] (y ∷ ys) lt hx hy size same = absurd (omega arith)
same_records most i (x ∷ xs) [] lt hx hy size same = absurd (omega arith)
same_records most i (x ∷ xs) (y ∷ ys) lt hx hy size same =
    let first = same_record most i x y (records_bytes (i + 1) xs) (records_bytes (i + 1) ys) lt (All-head (Fits most) x xs hx) (All-head (Fits most) y ys hy) same in
    ap₂ (λ (z : Option (List ℕ)) (l : List (Option (List ℕ))). z ∷ l) first.0
    (same_records most (i + 1) xs ys lt (All-tail (Fits most) x xs hx) (All-tail (Fits most) y ys hy) (omega arith) first.1)

-- the same bytes are the file of one session alone
pub one_session : (bytes : List ℕ) (t u : Transcript) → IsSession bytes t → IsSession bytes u → t ≡ u
one_session bytes t u ht hu =
    let same = sym ht.spelled ∙ hu.spelled in
    let parts = same_parts (header_bytes t.params) (header_bytes u.params) (records_bytes 1 t.records) (records_bytes 1 u.records) (length-header t.params ∙ sym (length-header u.params)) same in
    let params = same_params t.params u.params ht.range hu.range parts.0 in
    let size : length t.records ≡ length u.records = ht.all ∙ ap (λ (p : SessionParams). p.n) params ∙ sym hu.all in
    let fits = subst (λ (p : SessionParams). All (Fits (answer_len p.count p.s)) u.records) (sym params) hu.fits in
    let records = same_records (answer_len t.params.count t.params.s) 1 t.records u.records (omega (arith, ht.range.blocks.few_bytes)) ht.fits fits size parts.1 in
    λ i. record { params = params i; records = records i }
