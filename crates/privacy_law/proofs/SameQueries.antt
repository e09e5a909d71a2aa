-- What a coalition sees: the same of the partner for one block as of the coins for the other.
use Rattle.std.proofs.Common.{◌≡◌, ◌≢◌, ℕ, ◌+◌, ◌*◌, ◌<◌, ◌≤◌, List, length, All, Contains, sym, ap, ap₂, ◌∙◌, arith, inl, inr}
use Rattle.std.specs.Prelude.{if◌then◌else◌, ◌==◌}
use Rattle.std.proofs.lemmas.Bool.{cases_eq, eq-eqb, ne_eqb}
use Rattle.std.proofs.lemmas.List.{ext_get_or}
use Rattle.gf256.specs.Field.{◌⊕◌, ◌⊗◌}
use Rattle.gf256.specs.Polynomial.{val}
use Rattle.gf256.proofs.Xor.{sums, add_zero}
use Rattle.gf256.proofs.FieldLaws.{mul_add, mul_one, zero_mul}
use Rattle.uni_poly.proofs.Values.{val_cons}
use Rattle.shamir_share.specs.Query.{row_coins, row_polynomial, query}
use Rattle.shamir_share.proofs.Queries.{query_at, length-query}
use Rattle.privacy_law.specs.Hiding.{hiding}
use Rattle.privacy_law.specs.Pieces.{added}
use Rattle.privacy_law.specs.Partner.{added_to_row, partner}
use Rattle.privacy_law.specs.Bijection.{AreCoins, IsBijection}
use Rattle.privacy_law.proofs.ChangedPieces.{length-added, added_twice, AreCoins-added}
use Rattle.privacy_law.proofs.HidingPolynomial.{length-hiding, IsBytes-hiding, hiding_rest}
use Rattle.privacy_law.proofs.ChangedRows.{above, row_stays, val-row_changed}

-- 1 at row j, and 0 at the others
unfoldable unit : ℕ → ℕ → ℕ
unit j k = if k == j then 1 else 0

-- it is a byte
unit_times_one : (j k : ℕ) → unit j k ⊗ 1 ≡ unit j k
unfolding unit
unit_times_one j k =
    elim (cases_eq k j) [
      | inl e ↦ ap (λ b. (if b then 1 else 0) ⊗ 1) (eq-eqb k j e) ∙ mul_one 1 (omega arith) ∙ sym (ap (λ b. if b then 1 else 0) (eq-eqb k j e))
      | inr n ↦ ap (λ b. (if b then 1 else 0) ⊗ 1) (ne_eqb k j n) ∙ zero_mul 1 ∙ sym (ap (λ b. if b then 1 else 0) (ne_eqb k j n))
    ]

-- the value of a row's polynomial
val-row_polynomial : (coins : List ℕ) (t block k a : ℕ) → val (row_polynomial coins t block k) a ≡ unit block k ⊕ a ⊗ val (row_coins coins t k) a
unfolding row_polynomial unit
val-row_polynomial coins t block k a =
    val_cons (if k == block then 1 else 0) (row_coins coins t k) a ∙ ap (λ c. c ⊕ a ⊗ val (row_coins coins t k) a) (unit_times_one block k)

-- for a member of the coalition the hiding polynomial adds 1 at its row
mask_changed : (coins : List ℕ) (t r : ℕ) (coalition : List ℕ) (j k a : ℕ) → length coins ≡ r * t → k < r → length coalition ≤ t
    → All (λ a. a < 256) coalition → All (λ a. a ≢ 0) coalition → Contains coalition a
    → a ⊗ val (row_coins (added_to_row coins t (hiding coalition) j) t k) a ≡ a ⊗ val (row_coins coins t k) a ⊕ unit j k
unfolding unit
mask_changed coins t r coalition j k a long row few bytes nonzero member =
    let g = hiding coalition in
    let size : length g ≤ t + 1 = let e = length-hiding coalition bytes nonzero in omega (arith, e, few) in
    elim (cases_eq k j) [
      | inl e ↦
          ap (λ i. a ⊗ val (row_coins (added_to_row coins t g i) t k) a) (sym e)
          ∙ ap (◌⊗◌ a) (val-row_changed coins t r g k a long row size) ∙ mul_add a _ _
          ∙ ap (◌⊕◌ (a ⊗ val (row_coins coins t k) a)) (hiding_rest coalition a bytes nonzero member ∙ sym (ap (λ b. if b then 1 else 0) (eq-eqb k j e)))
      | inr n ↦
          ap (λ p. a ⊗ val p a) (row_stays coins t r g j k long row n) ∙ sym (add_zero _)
          ∙ ap (◌⊕◌ (a ⊗ val (row_coins coins t k) a)) (sym (ap (λ b. if b then 1 else 0) (ne_eqb k j n)))
    ]

-- a member's query for b2 from the partner is that for b from the coins
pub same_query : (coins : List ℕ) (t r : ℕ) (coalition : List ℕ) (b b2 a : ℕ) → length coins ≡ r * t → length coalition ≤ t
    → All (λ a. a < 256) coalition → All (λ a. a ≢ 0) coalition → Contains coalition a
    → query (partner coins t coalition b b2) t r b2 a ≡ query coins t r b a
unfolding partner
same_query coins t r coalition b b2 a long few bytes nonzero member =
    let g = hiding coalition in
    let once = added_to_row coins t g b in
    let twice = added_to_row once t g b2 in
    ext_get_or 0 (query twice t r b2 a) (query coins t r b a) (length-query twice t r b2 a ∙ sym (length-query coins t r b a)) (λ k l.
    let row : k < r = omega (arith, length-query twice t r b2 a) in
    let first = mask_changed coins t r coalition b k a long row few bytes nonzero member in
    let second = mask_changed once t r coalition b2 k a (length-added coins t b (above g) ∙ long) row few bytes nonzero member in
    let m = a ⊗ val (row_coins coins t k) a in
    let cancel : unit b2 k ⊕ (m ⊕ unit b k ⊕ unit b2 k) ≡ unit b k ⊕ m = simp sums in
    query_at twice t r b2 a k row ∙ val-row_polynomial twice t b2 k a ∙ ap (◌⊕◌ (unit b2 k)) (second ∙ ap (λ x. x ⊕ unit b2 k) first)
    ∙ cancel
    ∙ sym (query_at coins t r b a k row ∙ val-row_polynomial coins t b k a))

-- the partner of the partner, for the blocks exchanged, is the coins
pub partner_back : (coins : List ℕ) (t : ℕ) (coalition : List ℕ) (b b2 : ℕ) → partner (partner coins t coalition b b2) t coalition b2 b ≡ coins
unfolding partner
partner_back coins t coalition b b2 =
    let g = hiding coalition in
    ap (λ c. added_to_row c t g b) (added_twice (added_to_row coins t g b) t b2 (above g)) ∙ added_twice coins t b (above g)

-- coins stay coins
pub AreCoins-partner : (n : ℕ) (coins : List ℕ) (t : ℕ) (coalition : List ℕ) (b b2 : ℕ) → All (λ a. a < 256) coalition → All (λ a. a ≢ 0) coalition
    → AreCoins n coins → AreCoins n (partner coins t coalition b b2)
unfolding partner
AreCoins-partner n coins t coalition b b2 bytes nonzero h =
    let f = above (hiding coalition) in
    let small : (e : ℕ) → f e < 256 = λ e. IsBytes-hiding coalition bytes nonzero (e + 1) in
    AreCoins-added n (added coins t b f) t b2 f small (AreCoins-added n coins t b f small h)

-- so to take partners is a bijection
pub IsBijection-partner : (n t : ℕ) (coalition : List ℕ) (b b2 : ℕ) → All (λ a. a < 256) coalition → All (λ a. a ≢ 0) coalition
    → IsBijection n (λ coins. partner coins t coalition b b2)
IsBijection-partner n t coalition b b2 bytes nonzero = record {
  inverse = λ coins. partner coins t coalition b2 b;
  into = λ coins h. AreCoins-partner n coins t coalition b b2 bytes nonzero h;
  back = λ coins h. AreCoins-partner n coins t coalition b2 b bytes nonzero h;
  left = λ coins h. partner_back coins t coalition b b2;
  right = λ coins h. partner_back coins t coalition b2 b;
}

-- what is written is the partner
pub partner_is : (new old g coins : List ℕ) (t : ℕ) (coalition : List ℕ) (b b2 : ℕ) → new ≡ added_to_row (added_to_row old t g b) t g b2 → old ≡ coins → g ≡ hiding coalition
    → new ≡ partner coins t coalition b b2
unfolding partner
partner_is new old g coins t coalition b b2 written start same = written ∙ ap₂ (λ c p. added_to_row (added_to_row c t p b) t p b2) start same
