-- The products of one factor with 0 to 15 and with 0, 16, .. 240, by tables for the halves of the
-- factor.
use Rattle.std.proofs.Common.{◌≡◌, ℕ, ◌+◌, ◌*◌, ◌/◌, ◌%◌, ◌<◌, List, length, map, get_or, bit_and, bit_xor, nat_eq, true, eqb-true, refl, sym, ap, ap₂, ◌∙◌, arith, lit<}
use Rattle.std.specs.List.{range_with_len}
use Rattle.std.specs.Simd.Lanes.{zip2, chunk}
use Rattle.std.proofs.lemmas.List.{same_lists}
use Rattle.std.proofs.lemmas.List.FromFn.{get_or-map-range_with_len}
use Rattle.std.proofs.lemmas.Nat.{and_mask, mod_below}
use Rattle.std.proofs.lemmas.Simd.{length-zip2, get_or-zip2, length-chunk, get_or-chunk}
use Rattle.gf256.specs.Field.{◌⊕◌, ◌⊗◌, carryless, reduced}
use Rattle.gf256.specs.declared.rows.TheConstants.{SMALL, MIDDLE, LARGE}
use Rattle.gf256.proofs.Below.{all_below, all_below-at}
use Rattle.gf256.proofs.Xor.{add_comm, add_parts}
use Rattle.gf256.proofs.FieldLaws.{add_mul}

-- the table holds the products of a for its row with b for its place
abbrev Holds : List ℕ → (ℕ → ℕ) → (ℕ → ℕ) → Type 0
Holds table a b = all_below (λ p. nat_eq (get_or table p 0) (a (p / 16) ⊗ b (p % 16))) 256 ≡ true

-- itself, and its shift by four bits
abbrev plain : ℕ → ℕ
plain x = x

abbrev shifted : ℕ → ℕ
shifted x = x * 16

-- the three tables, by whole computation: the small one has the products of two low halves
small_low : Holds SMALL plain plain
unfolding all_below ◌⊗◌ ◌⊕◌ carryless reduced
small_low = refl

-- the middle one those of a high half for its row with a low one
middle_low : Holds MIDDLE shifted plain
unfolding all_below ◌⊗◌ ◌⊕◌ carryless reduced
middle_low = refl

-- and those of a low half for its row with a high one
middle_high : Holds MIDDLE plain shifted
unfolding all_below ◌⊗◌ ◌⊕◌ carryless reduced
middle_high = refl

-- the large one those of two high halves
large_high : Holds LARGE shifted shifted
unfolding all_below ◌⊗◌ ◌⊕◌ carryless reduced
large_high = refl

-- place k of row j
row_at : (table : List ℕ) (a b : ℕ → ℕ) → Holds table a b → (j k : ℕ) → j < 16 → k < 16 → get_or (chunk (j * 16) 16 table) k 0 ≡ a j ⊗ b k
row_at table a b holds j k small within =
    let quotient : (j * 16 + k) / 16 ≡ j = omega arith in
    let rest : (j * 16 + k) % 16 ≡ k = omega arith in
    get_or-chunk (j * 16) 16 table k 0 within
    ∙ eqb-true _ _ (all_below-at (λ p. nat_eq (get_or table p 0) (a (p / 16) ⊗ b (p % 16))) 256 (j * 16 + k) holds (omega arith))
    ∙ ap₂ (λ x y. a x ⊗ b y) quotient rest

-- the sum of the rows of the halves is the row of the factor
rows_are : (low high : List ℕ) (f : ℕ) (b : ℕ → ℕ) → length low ≡ 256 → length high ≡ 256 → f < 256 → Holds low plain b → Holds high shifted b
    → zip2 bit_xor (chunk (bit_and f 15 * 16) 16 low) (chunk (f / 16 * 16) 16 high) ≡ map (λ i. f ⊗ b i) (range_with_len 0 16)
unfolding ◌⊕◌
rows_are low high f b size_low size_high byte is_low is_high =
    let x = chunk (bit_and f 15 * 16) 16 low in
    let y = chunk (f / 16 * 16) 16 high in
    let mask : bit_and f 15 ≡ f % 16 = and_mask f 4 in
    let below = mod_below f 16 (lit< tt) in
    let long_x : length x ≡ 16 = length-chunk (bit_and f 15 * 16) 16 low (omega arith) in
    let long_y : length y ≡ 16 = length-chunk (f / 16 * 16) 16 high (omega arith) in
    let whole : length (zip2 bit_xor x y) ≡ 16 = length-zip2 bit_xor x y (long_x ∙ sym long_y) ∙ long_x in
    same_lists _ _ whole
    (λ k d l.
    get_or-zip2 bit_xor x y k 0 0 d (omega arith) (omega arith)
    ∙ ap₂ bit_xor
    (row_at low plain b is_low (bit_and f 15) k (omega arith) (omega arith) ∙ ap (λ z. z ⊗ b k) mask)
    (row_at high shifted b is_high (f / 16) k (omega arith) (omega arith))
    ∙ sym (add_mul (f % 16) (f / 16 * 16) (b k))
    ∙ ap (λ z. z ⊗ b k) (add_comm (f % 16) (f / 16 * 16) ∙ add_parts (f / 16) (f % 16) 4 below ∙ omega arith)
    ∙ sym (get_or-map-range_with_len (λ i. f ⊗ b i) 0 16 k k d (omega arith) (omega arith)))

-- a factor's products with the low halves are the sum of its two rows, one of the small and one of the middle table
pub low_rows : (f : ℕ) → f < 256 → zip2 bit_xor (chunk (bit_and f 15 * 16) 16 SMALL) (chunk (f / 16 * 16) 16 MIDDLE) ≡ map (λ i. f ⊗ i) (range_with_len 0 16)
low_rows f byte = rows_are SMALL MIDDLE f plain refl refl byte small_low middle_low

-- those with the high halves, of the middle and the large table
pub high_rows : (f : ℕ) → f < 256 → zip2 bit_xor (chunk (bit_and f 15 * 16) 16 MIDDLE) (chunk (f / 16 * 16) 16 LARGE) ≡ map (λ i. f ⊗ (i * 16)) (range_with_len 0 16)
high_rows f byte = rows_are MIDDLE LARGE f shifted refl refl byte middle_high large_high
