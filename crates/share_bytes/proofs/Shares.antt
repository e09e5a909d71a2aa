-- Shares position by position, from masks, and in pieces.
use Rattle.std.proofs.Common.{bit_xor, take, ◌≡◌, ℕ, ◌+◌, ◌-◌, ◌*◌, ◌<◌, ◌≤◌, List, [], ◌++◌, length, map, get_or, refl, sym, ap, ap₂, ◌∙◌, inl, inr, arith, length-append, length-drop, drop, ◌∷◌}
use Rattle.std.specs.List.{range_with_len, slice_range}
use Rattle.std.specs.Simd.Lanes.{zip2, chunk}
use Rattle.std.proofs.lemmas.Simd.{length-zip2, get_or-zip2}
use Rattle.std.proofs.Math.Nat.{add-mul, mul-le-mul_right}
use Rattle.std.proofs.lemmas.Bool.{cases_lt}
use Rattle.std.proofs.lemmas.List.{get_or_past, length-take-le, ext_get_or, get_or-take, get_or-drop, get_or_append_left, get_or-append_right, length-take}
use Rattle.std.proofs.lemmas.List.FromFn.{length-map-range_with_len, get_or-map-range_with_len}
use Rattle.gf256.specs.Field.{◌⊕◌, ◌⊗◌}
use Rattle.gf256.specs.Polynomial.{val}
use Rattle.gf256.proofs.Xor.{add_comm}
use Rattle.gf256.proofs.FieldLaws.{mul_one}
use Rattle.uni_poly.proofs.Values.{val_cons}
use Rattle.shamir_share.specs.Query.{row_coins, masks}
use Rattle.shamir_share.proofs.Rows.{length-masks, masks_at, row_of_slice}
use Rattle.share_bytes.specs.Share.{position_polynomial, share}

-- the shares of the first n positions
unfoldable pub first_shares : List ℕ → List ℕ → ℕ → ℕ → ℕ → List ℕ
first_shares bytes coins tau n a = map (λ i. val (position_polynomial bytes coins tau i) a) (range_with_len 0 n)

-- those of all positions are the share
pub share_is : (bytes coins : List ℕ) (tau a : ℕ) → first_shares bytes coins tau (length bytes) a ≡ share bytes coins tau a
unfolding share first_shares
share_is bytes coins tau a = refl

-- none
pub shares_none : (bytes coins : List ℕ) (tau a : ℕ) → [] ≡ first_shares bytes coins tau 0 a
unfolding first_shares
shares_none bytes coins tau a = refl

-- byte i of the first shares
shares_at : (bytes coins : List ℕ) (tau n a i : ℕ) → i < n → get_or (first_shares bytes coins tau n a) i 0 ≡ val (position_polynomial bytes coins tau i) a
unfolding first_shares
shares_at bytes coins tau n a i lt = get_or-map-range_with_len (λ i. val (position_polynomial bytes coins tau i) a) 0 n i i 0 lt (omega arith)

-- how many the first shares are
length-shares : (bytes coins : List ℕ) (tau n a : ℕ) → length (first_shares bytes coins tau n a) ≡ n
unfolding first_shares
length-shares bytes coins tau n a = length-map-range_with_len _ 0 n

-- byte i of a share
pub share_at : (bytes coins : List ℕ) (tau a i : ℕ) → i < length bytes → get_or (share bytes coins tau a) i 0 ≡ val (position_polynomial bytes coins tau i) a
share_at bytes coins tau a i lt = ap (λ xs. get_or xs i 0) (sym (share_is bytes coins tau a)) ∙ shares_at bytes coins tau (length bytes) a i lt

-- a share is as long as the database
pub length-share : (bytes coins : List ℕ) (tau a : ℕ) → length (share bytes coins tau a) ≡ length bytes
length-share bytes coins tau a = ap length (sym (share_is bytes coins tau a)) ∙ length-shares bytes coins tau (length bytes) a

-- the constant apart from the coins
pub val-position : (bytes coins : List ℕ) (tau i a : ℕ) → val (position_polynomial bytes coins tau i) a ≡ get_or bytes i 0 ⊗ 1 ⊕ a ⊗ val (row_coins coins tau i) a
unfolding position_polynomial
val-position bytes coins tau i a = val_cons (get_or bytes i 0) (row_coins coins tau i) a

-- masks to which the bytes are added are the share
pub share_from_masks : (bytes coins new : List ℕ) (tau a : ℕ) → ((i : ℕ) → get_or bytes i 0 < 256) → length new ≡ length bytes
    → ((i : ℕ) → i < length bytes → get_or new i 0 ≡ get_or (masks coins tau (length bytes) a) i 0 ⊕ get_or bytes i 0) → new ≡ share bytes coins tau a
share_from_masks bytes coins new tau a small long each =
    ext_get_or 0 new (share bytes coins tau a) (long ∙ sym (length-share bytes coins tau a)) (λ i l.
    let within : i < length bytes = omega (arith, long) in
    each i within ∙ ap₂ ◌⊕◌ (masks_at coins tau (length bytes) a i within) (sym (mul_one (get_or bytes i 0) (small i)))
    ∙ add_comm _ _ ∙ sym (val-position bytes coins tau i a) ∙ sym (share_at bytes coins tau a i within))

-- a position of a slice
position_of_slice : (bytes coins : List ℕ) (tau m n j : ℕ) → j < n
    → position_polynomial (slice_range bytes m (m + n)) (slice_range coins (m * tau) ((m + n) * tau)) tau j ≡ position_polynomial bytes coins tau (m + j)
unfolding position_polynomial
position_of_slice bytes coins tau m n j lt =
    ap₂ (λ b p. b ∷ p) (get_or-take (m + n - m) _ j 0 (omega arith) ∙ get_or-drop m bytes j 0) (row_of_slice coins tau m n j lt)

-- a slice of n bytes has n bytes
pub length-slice : (xs : List ℕ) (m n : ℕ) → m + n ≤ length xs → length (slice_range xs m (m + n)) ≡ n
length-slice xs m n enough = length-take (m + n - m) (drop m xs) ∙ omega (arith, length-drop m xs)

-- as many coins are sliced as go with the bytes sliced
pub length-slice_coins : (bytes coins : List ℕ) (tau m n : ℕ) → m + n ≤ length bytes → length coins ≡ length bytes * tau
    → length (slice_range coins (m * tau) ((m + n) * tau)) ≡ length (slice_range bytes m (m + n)) * tau
length-slice_coins bytes coins tau m n enough is =
    let each = add-mul m n tau in
    ap (λ e. length (slice_range coins (m * tau) e)) each
    ∙ length-slice coins (m * tau) (n * tau) (omega (arith, mul-le-mul_right tau enough, each, is))
    ∙ ap (λ k. k * tau) (sym (length-slice bytes m n enough))

-- n more positions
pub shares_more : (bytes coins : List ℕ) (tau m n a : ℕ) → m + n ≤ length bytes
    → first_shares bytes coins tau m a ++ share (slice_range bytes m (m + n)) (slice_range coins (m * tau) ((m + n) * tau)) tau a ≡ first_shares bytes coins tau (m + n) a
shares_more bytes coins tau m n a enough =
    let piece = slice_range bytes m (m + n) in
    let first = first_shares bytes coins tau m a in
    let rest = share piece (slice_range coins (m * tau) ((m + n) * tau)) tau a in
    let size : length piece ≡ n = length-slice bytes m n enough in
    let long = length-append first rest ∙ ap₂ ◌+◌ (length-shares bytes coins tau m a) (length-share piece _ tau a ∙ size) in
    ext_get_or 0 (first ++ rest) (first_shares bytes coins tau (m + n) a) (long ∙ sym (length-shares bytes coins tau (m + n) a)) (λ i lt.
    elim (cases_lt i m) [
      | inl l ↦ get_or_append_left first rest 0 i (omega (arith, length-shares bytes coins tau m a)) ∙ shares_at bytes coins tau m a i l ∙ sym (shares_at bytes coins tau (m + n) a i (omega arith))
      | inr g ↦
          let j = i - m in
          let back : m + j ≡ i = omega arith in
          get_or-append_right first rest m i 0 (length-shares bytes coins tau m a) g
          ∙ share_at piece _ tau a j (omega arith) ∙ ap (λ p. val p a) (position_of_slice bytes coins tau m n j (omega arith) ∙ ap (position_polynomial bytes coins tau) back)
          ∙ sym (shares_at bytes coins tau (m + n) a i (omega arith))
    ])

-- the shares of the first positions are a prefix of the share
pub first_shares_are : (bytes coins : List ℕ) (tau n a : ℕ) → n ≤ length bytes → first_shares bytes coins tau n a ≡ take n (share bytes coins tau a)
first_shares_are bytes coins tau n a few =
    let whole = share bytes coins tau a in
    let size : length (take n whole) ≡ n = length-take-le n whole (omega (arith, few, length-share bytes coins tau a)) in
    ext_get_or 0 (first_shares bytes coins tau n a) (take n whole) (length-shares bytes coins tau n a ∙ sym size) (λ i l.
    let below : i < n = omega (arith, l, length-shares bytes coins tau n a) in
    shares_at bytes coins tau n a i below ∙ sym (get_or-take n whole i 0 below ∙ share_at bytes coins tau a i (omega (arith, below, few))))

-- n masks to which as many bytes are added are the share of these
pub share_of_lanes : (n : ℕ) (bytes coins lanes : List ℕ) (tau a at : ℕ) → at + n ≤ length bytes → ((i : ℕ) → get_or bytes i 0 < 256)
    → lanes ≡ masks (slice_range coins (at * tau) ((at + n) * tau)) tau n a
    → (length (zip2 bit_xor lanes (chunk at n bytes)) ≡ n)
    × (zip2 bit_xor lanes (chunk at n bytes) ≡ share (slice_range bytes at (at + n)) (slice_range coins (at * tau) ((at + n) * tau)) tau a)
unfolding ◌⊕◌
share_of_lanes n bytes coins lanes tau a at room small is =
    let own = slice_range coins (at * tau) ((at + n) * tau) in
    let piece = slice_range bytes at (at + n) in
    let count : at + n - at ≡ n = omega arith in
    let same : piece ≡ chunk at n bytes = ap (λ k. take k (drop at bytes)) count in
    let size : length piece ≡ n = length-slice bytes at n room in
    let long : length lanes ≡ n = ap length is ∙ length-masks own tau n a in
    let equal = ap length same in
    let made = zip2 bit_xor lanes (chunk at n bytes) in
    let all : length made ≡ n = length-zip2 bit_xor lanes (chunk at n bytes) (omega (arith, long, size, equal)) ∙ long in (
      all,
      share_from_masks piece own made tau a (λ i. byte i) (all ∙ sym size) (λ i l.
          get_or-zip2 bit_xor lanes (chunk at n bytes) i 0 0 0 (omega (arith, l, size, long)) (omega (arith, l, equal))
          ∙ ap₂ (λ p q. bit_xor (get_or p i 0) (get_or q i 0)) (is ∙ ap (λ m. masks own tau m a) (sym size)) (sym same)),
    )
  where
    byte : (i : ℕ) → get_or (slice_range bytes at (at + n)) i 0 < 256
    byte i =
        elim (cases_lt i (at + n - at)) [
          | inl low ↦ let e = get_or-take (at + n - at) (drop at bytes) i 0 low ∙ get_or-drop at bytes i 0 in let b = small (at + i) in omega (arith, e, b)
          | inr high ↦ let e = get_or_past (slice_range bytes at (at + n)) i 0 (omega (arith, high, length-slice bytes at n room)) in omega (arith, e)
        ]
