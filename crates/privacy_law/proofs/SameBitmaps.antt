-- What all servers but one see in the XOR scheme: the same of the partner for one block as of the
-- coins for the other.
use Rattle.std.proofs.Common.{◌≡◌, ◌≢◌, ℕ, ◌+◌, ◌-◌, ◌*◌, ◌/◌, ◌%◌, ◌^◌, ◌<◌, ◌≤◌, ◌==◌, if◌then◌else◌, Bool, List, length, get_or, refl, sym, ap, ap₂, subst, ◌∙◌, arith, inl, inr, lit<, pow-add, div-add-mod', bit_xor, set, length-set, get_or-set_same, get_or-set_other}
use Rattle.std.proofs.Math.Nat.{add-mul, mul-le-mul_right, mul-div_left}
use Rattle.std.proofs.lemmas.Bool.{cases_eq, eq-eqb, ne_eqb}
use Rattle.std.proofs.lemmas.List.{ext_get_or}
use Rattle.std.proofs.lemmas.Nat.{pow_pos, pow_below}
use Rattle.gf256.specs.Field.{◌⊕◌}
use Rattle.gf256.specs.Sums.{sum_to}
use Rattle.gf256.proofs.Xor.{sums, add_zero}
use Rattle.gf256.proofs.Sums.{sum_to-same, sum_to-add, sum_to-one}
use Rattle.chor_xor.specs.Bitmap.{size_of, unused_bits, cleared, random_byte, unit_byte, last_byte, bitmap}
use Rattle.chor_xor.proofs.Bits.{cleared-add, cleared-zero, power-by_shift}
use Rattle.chor_xor.proofs.Shares.{length-bitmap, bitmap-random, bitmap-last}
use Rattle.gf256.proofs.FlatRows.{row_within}
use Rattle.privacy_law.specs.Pieces.{addend, added}
use Rattle.privacy_law.specs.Partner.{flipped, partner_xor}
use Rattle.privacy_law.specs.Bijection.{AreCoins, IsBijection}
use Rattle.privacy_law.proofs.ChangedPieces.{length-added, added_at, added_twice, addend_here, addend_elsewhere, addend_outside, AreCoins-added}

-- ---- unit vectors

-- a bit above the unused ones is kept where they are cleared
power_kept : (u p : ℕ) → u ≤ p → 2 ^ p / 2 ^ u * 2 ^ u ≡ 2 ^ p
power_kept u p l =
    let split : 2 ^ p ≡ 2 ^ (p - u) * 2 ^ u = ap (λ e. 2 ^ e) (omega arith) ∙ pow-add 2 (p - u) u in
    ap (λ x. x / 2 ^ u * 2 ^ u) split ∙ ap (λ x. x * 2 ^ u) (mul-div_left (2 ^ (p - u)) (pow_pos u)) ∙ sym split

-- the unit vector of a row has no unused bit
cleared-unit : (r j k : ℕ) → j < r → cleared r k (unit_byte j k) ≡ unit_byte j k
unfolding cleared unit_byte
cleared-unit r j k l =
    elim (cases_eq k (j / 8)) [
      | inl same ↦
          let at = eq-eqb k (j / 8) same in
          rw at (power_kept (unused_bits r k) (7 - j % 8) (omega (arith, same, l)))
      | inr other ↦ let off = ne_eqb k (j / 8) other in rw off (cleared-zero r k)
    ]

-- it has bytes
unit_lt : (j k : ℕ) → unit_byte j k < 256
unfolding unit_byte
unit_lt j k =
    elim (cases_eq k (j / 8)) [
      | inl same ↦ rw (eq-eqb k (j / 8) same) (pow_below (7 - j % 8) 8 (omega arith))
      | inr other ↦ rw (ne_eqb k (j / 8) other) (lit< tt)
    ]

-- its one bit
unit_here : (j : ℕ) → unit_byte j (j / 8) ≡ 2 ^ (7 - j % 8)
unfolding unit_byte
unit_here j = ap (λ t. if t then 2 ^ (7 - j % 8) else 0) (eq-eqb (j / 8) (j / 8) refl)

-- nothing is added but at this bit
unit_elsewhere : (size piece j i : ℕ) → i ≢ piece * size + j / 8 → addend (unit_byte j) size piece i ≡ 0
unfolding unit_byte addend
unit_elsewhere size piece j i ne =
    elim (cases_eq (i / size) piece) [
      | inl same ↦
          elim (cases_eq (i % size) (j / 8)) [
            | inl byte ↦ absurd (ne (sym (div-add-mod' i size) ∙ ap₂ (λ q m. q * size + m) same byte))
            | inr other ↦
                ap (λ t. if t then unit_byte j (i % size) else 0) (eq-eqb (i / size) piece same) ∙ ap (λ t. if t then 2 ^ (7 - j % 8) else 0) (ne_eqb (i % size) (j / 8) other)
          ]
      | inr other ↦ addend_outside (unit_byte j) size piece i other
    ]

-- ---- the bitmaps that are coins

-- a byte of one of m pieces is among the coins
pub piece_fits : (i m size k n : ℕ) → i < m → k < size → n ≡ m * size → i * size + k < n
piece_fits i m size k n low l long =
    let h = mul-le-mul_right size (let more : i + 1 ≤ m = omega arith in more) in omega (arith, h, add-mul i 1 size, l, long)

-- a byte of another bitmap stays
random_stays : (coins : List ℕ) (m r piece j i k : ℕ) → length coins ≡ m * size_of r → i < m → k < size_of r → i ≢ piece
    → random_byte (flipped coins r piece j) r i k ≡ random_byte coins r i k
unfolding random_byte
random_stays coins m r piece j i k long low l ne =
    ap (cleared r k) (added_at coins (size_of r) piece (unit_byte j) (i * size_of r + k) (piece_fits i m (size_of r) k (length coins) low l long)
    ∙ ap (◌⊕◌ (get_or coins (i * size_of r + k) 0)) (addend_elsewhere (unit_byte j) (size_of r) piece i k l ne) ∙ add_zero _)

-- in the bitmap itself the row's bit is flipped
random_flipped : (coins : List ℕ) (m r piece j k : ℕ) → length coins ≡ m * size_of r → piece < m → k < size_of r → j < r
    → random_byte (flipped coins r piece j) r piece k ≡ random_byte coins r piece k ⊕ unit_byte j k
unfolding random_byte
random_flipped coins m r piece j k long low l row =
    ap (cleared r k) (added_at coins (size_of r) piece (unit_byte j) (piece * size_of r + k) (piece_fits piece m (size_of r) k (length coins) low l long)
    ∙ ap (◌⊕◌ (get_or coins (piece * size_of r + k) 0)) (addend_here (unit_byte j) (size_of r) piece piece k l refl))
    ∙ cleared-add r k _ _ ∙ ap (◌⊕◌ (cleared r k (get_or coins (piece * size_of r + k) 0))) (cleared-unit r j k row)

-- so it is in their sum
sum_flipped : (coins : List ℕ) (m r piece j k : ℕ) → length coins ≡ m * size_of r → piece < m → k < size_of r → j < r
    → sum_to (λ i. random_byte (flipped coins r piece j) r i k) m ≡ sum_to (λ i. random_byte coins r i k) m ⊕ unit_byte j k
sum_flipped coins m r piece j k long low l row =
    let change : ℕ → ℕ = λ i. if i == piece then unit_byte j k else 0 in
    let pick : Bool → ℕ = λ t. if t then unit_byte j k else 0 in
    sum_to-same (λ i. random_byte (flipped coins r piece j) r i k) (λ i. random_byte coins r i k ⊕ change i) m (λ i h.
    elim (cases_eq i piece) [
      | inl same ↦
          ap (λ p. random_byte (flipped coins r piece j) r p k) same ∙ random_flipped coins m r piece j k long low l row
          ∙ ap₂ (λ p u. random_byte coins r p k ⊕ u) (sym same) (sym (ap pick (eq-eqb i piece same)))
      | inr other ↦
          random_stays coins m r piece j i k long h l other ∙ sym (add_zero _)
          ∙ ap (◌⊕◌ (random_byte coins r i k)) (sym (ap pick (ne_eqb i piece other)))
    ])
    ∙ sum_to-add (λ i. random_byte coins r i k) change m
    ∙ ap (◌⊕◌ (sum_to (λ i. random_byte coins r i k) m))
    (sum_to-one change m piece low (λ i h ne. ap pick (ne_eqb i piece ne)) ∙ ap pick (eq-eqb piece piece refl))

-- ---- the partner

-- where the last server is left out
pub xor_stays : (coins : List ℕ) (n r left_out b b2 : ℕ) → left_out ≡ n → partner_xor coins n r left_out b b2 ≡ coins
unfolding partner_xor
xor_stays coins n r left_out b b2 same =
    ap (λ t. if t then coins else flipped (flipped coins r (left_out - 1) b) r (left_out - 1) b2) (eq-eqb left_out n same)

-- where another is
pub xor_flips : (coins : List ℕ) (n r left_out b b2 : ℕ) → left_out ≢ n
    → partner_xor coins n r left_out b b2 ≡ flipped (flipped coins r (left_out - 1) b) r (left_out - 1) b2
unfolding partner_xor
xor_flips coins n r left_out b b2 other =
    ap (λ t. if t then coins else flipped (flipped coins r (left_out - 1) b) r (left_out - 1) b2) (ne_eqb left_out n other)

-- a server before the last sees no block
no_block : (coins : List ℕ) (n r b b2 index : ℕ) → index ≢ n → bitmap coins n r b2 index ≡ bitmap coins n r b index
no_block coins n r b b2 index ne =
    ext_get_or 0 (bitmap coins n r b2 index) (bitmap coins n r b index) (length-bitmap coins n r b2 index ∙ sym (length-bitmap coins n r b index)) (λ k l.
    let low : k < size_of r = omega (arith, length-bitmap coins n r b2 index) in
    bitmap-random coins n r b2 index k low ne ∙ sym (bitmap-random coins n r b index k low ne))

-- each server but the one left out sees the same
pub same_bitmap : (coins : List ℕ) (n r left_out b b2 index : ℕ) → length coins ≡ (n - 1) * size_of r → b < r → b2 < r
    → 1 ≤ left_out → left_out ≤ n → 1 ≤ index → index ≤ n → index ≢ left_out
    → bitmap (partner_xor coins n r left_out b b2) n r b2 index ≡ bitmap coins n r b index
unfolding last_byte
same_bitmap coins n r left_out b b2 index long hb hb2 first last index_first index_last ne =
    elim (cases_eq left_out n) [
      | inl same ↦
          ap (λ c. bitmap c n r b2 index) (xor_stays coins n r left_out b b2 same)
          ∙ no_block coins n r b b2 index (λ e. ne (e ∙ sym same))
      | inr other ↦
          let piece = left_out - 1 in
          let once = flipped coins r piece b in
          let twice = flipped once r piece b2 in
          let low : piece < n - 1 = omega (arith, first, last, other) in
          let long_once = length-added coins (size_of r) piece (unit_byte b) ∙ long in
          ap (λ c. bitmap c n r b2 index) (xor_flips coins n r left_out b b2 other)
          ∙ ext_get_or 0 (bitmap twice n r b2 index) (bitmap coins n r b index) (length-bitmap twice n r b2 index ∙ sym (length-bitmap coins n r b index)) (λ k l.
          let below : k < size_of r = omega (arith, length-bitmap twice n r b2 index) in
          elim (cases_eq index n) [
            | inl at ↦
                let sum = sum_to (λ i. random_byte coins r i k) (n - 1) in
                let cancel : sum ⊕ unit_byte b k ⊕ unit_byte b2 k ⊕ unit_byte b2 k ≡ sum ⊕ unit_byte b k = simp sums in
                ap (λ i. get_or (bitmap twice n r b2 i) k 0) at ∙ bitmap-last twice n r b2 k below
                ∙ ap (λ s. s ⊕ unit_byte b2 k)
                (sum_flipped once (n - 1) r piece b2 k long_once low below hb2 ∙ ap (λ s. s ⊕ unit_byte b2 k) (sum_flipped coins (n - 1) r piece b k long low below hb))
                ∙ cancel ∙ sym (bitmap-last coins n r b k below) ∙ ap (λ i. get_or (bitmap coins n r b i) k 0) (sym at)
            | inr before ↦
                let within : index - 1 < n - 1 = omega (arith, index_first, index_last, before) in
                let apart : index - 1 ≢ piece = λ e. ne (omega (arith, e, first, index_first)) in
                bitmap-random twice n r b2 index k below before
                ∙ random_stays once (n - 1) r piece b2 (index - 1) k long_once within below apart
                ∙ random_stays coins (n - 1) r piece b (index - 1) k long within below apart
                ∙ sym (bitmap-random coins n r b index k below before)
          ])
    ]

-- the partner of the partner, for the blocks exchanged, is the coins
pub xor_back : (coins : List ℕ) (n r left_out b b2 : ℕ) → partner_xor (partner_xor coins n r left_out b b2) n r left_out b2 b ≡ coins
xor_back coins n r left_out b b2 =
    elim (cases_eq left_out n) [
      | inl same ↦ xor_stays (partner_xor coins n r left_out b b2) n r left_out b2 b same ∙ xor_stays coins n r left_out b b2 same
      | inr other ↦
          let piece = left_out - 1 in
          xor_flips (partner_xor coins n r left_out b b2) n r left_out b2 b other
          ∙ ap (λ c. flipped (flipped c r piece b2) r piece b) (xor_flips coins n r left_out b b2 other)
          ∙ ap (λ c. flipped c r piece b) (added_twice (flipped coins r piece b) (size_of r) piece (unit_byte b2))
          ∙ added_twice coins (size_of r) piece (unit_byte b)
    ]

-- coins stay coins
pub AreCoins-xor : (m : ℕ) (coins : List ℕ) (n r left_out b b2 : ℕ) → AreCoins m coins → AreCoins m (partner_xor coins n r left_out b b2)
AreCoins-xor m coins n r left_out b b2 h =
    elim (cases_eq left_out n) [
      | inl same ↦ subst (AreCoins m) (sym (xor_stays coins n r left_out b b2 same)) h
      | inr other ↦
          let piece = left_out - 1 in
          subst (AreCoins m) (sym (xor_flips coins n r left_out b b2 other))
          (AreCoins-added m (flipped coins r piece b) (size_of r) piece (unit_byte b2) (unit_lt b2) (AreCoins-added m coins (size_of r) piece (unit_byte b) (unit_lt b) h))
    ]

-- so to take partners is a bijection
pub IsBijection-xor : (m n r left_out b b2 : ℕ) → IsBijection m (λ coins. partner_xor coins n r left_out b b2)
IsBijection-xor m n r left_out b b2 = record {
  inverse = λ coins. partner_xor coins n r left_out b2 b;
  into = λ coins h. AreCoins-xor m coins n r left_out b b2 h;
  back = λ coins h. AreCoins-xor m coins n r left_out b2 b h;
  left = λ coins h. xor_back coins n r left_out b b2;
  right = λ coins h. xor_back coins n r left_out b2 b;
}

-- the bitmap of a server before the last is among the coins
pub piece_room : (n left_out size r long : ℕ) → 1 ≤ left_out → left_out ≤ n → left_out ≢ n → size ≡ size_of r → long ≡ (n - 1) * size_of r
    → (left_out - 1) * size + size ≤ long
piece_room n left_out size r long first last ne is whole =
    let fits = row_within (left_out - 1) (n - 1) size (omega (arith, first, last, ne)) in
    let same = whole ∙ ap (λ s. (n - 1) * s) (sym is) in
    omega (arith, fits, same)

-- where bit j of a piece was flipped
pub written_bit : (coins : List ℕ) (size piece j : ℕ) → piece * size + size ≤ length coins → j / 8 < size
    → set coins (piece * size + j / 8) (bit_xor (get_or coins (piece * size + j / 8) 0) (1 * 2 ^ (7 - j % 8) % 256)) ≡ added coins size piece (unit_byte j)
unfolding ◌⊕◌
written_bit coins size piece j fits low =
    let place = piece * size + j / 8 in
    let f = unit_byte j in
    let x = bit_xor (get_or coins place 0) (1 * 2 ^ (7 - j % 8) % 256) in
    let here : f (j / 8) ≡ 1 * 2 ^ (7 - j % 8) % 256 = unit_here j ∙ sym (power-by_shift (7 - j % 8) (omega arith)) in
    ext_get_or 0 (set coins place x) (added coins size piece f) (length-set coins place x ∙ sym (length-added coins size piece f)) (λ i l.
    let within : i < length coins = omega (arith, length-set coins place x) in
    let now = added_at coins size piece f i within in
    elim (cases_eq i place) [
      | inl same ↦
          ap (λ k. get_or (set coins place x) k 0) same ∙ get_or-set_same coins place x 0 (omega (arith, same, within))
          ∙ ap₂ bit_xor (ap (λ k. get_or coins k 0) (sym same)) (sym here ∙ sym (addend_here f size piece piece (j / 8) low refl) ∙ ap (addend f size piece) (sym same))
          ∙ sym now
      | inr other ↦
          get_or-set_other coins place i x 0 other ∙ sym (now ∙ ap (bit_xor (get_or coins i 0)) (unit_elsewhere size piece j i (λ e. other e)) ∙ nothing (get_or coins i 0))
    ])
  where
    nothing : (a : ℕ) → bit_xor a 0 ≡ a
    nothing a = add_zero a
