-- Products of bytes with their places, by the powers of two that a place is made of.
use Rattle.std.proofs.Common.{◌≡◌, ◌⊎◌, ℕ, ◌+◌, ◌/◌, ◌%◌, ◌<◌, List, [], ◌∷◌, length, get_or, bit_and, bit_xor, nat_eq, true, eqb-true, inl, inr, refl, sym, ap, ap₂, ◌∙◌, arith, zero-add}
use Rattle.std.specs.Simd.Lanes.{zip2}
use Rattle.std.proofs.lemmas.Bool.{cases_lt}
use Rattle.std.proofs.lemmas.Nat.{and_mask}
use Rattle.std.proofs.lemmas.Simd.{length-zip2, get_or-zip2}
use Rattle.std.specs.Int.Bits.{and_zero_r}
use Rattle.gf256.specs.Field.{◌⊕◌, ◌⊗◌}
use Rattle.gf256.specs.Rows.{AreLanes}
use Rattle.gf256.proofs.Below.{all_below, all_below-at}
use Rattle.gf256.proofs.LaneSums.{lanes-sum}
use Rattle.gf256.proofs.FieldLaws.{add_mul, zero_mul, mul_lt}

-- all bits of a byte
all_bits : (x : ℕ) → x < 256 → bit_and x 255 ≡ x
all_bits x byte = and_mask x 8 ∙ omega (arith, byte)

-- a lane of those from the first on
pub lane-first : {xs : List ℕ} {g : ℕ → ℕ} (k : ℕ) → AreLanes 16 xs g 0 → k < 16 → get_or xs k 0 ≡ g k
lane-first {g} k are l = are.each k l ∙ ap g (zero-add k)

-- each of 16 lanes has all bits or none
abbrev pub IsMask : List ℕ → Type 0
IsMask mask = all_below (λ k. nat_eq (get_or mask k 0 % 255 + get_or mask k 0 / 256) 0) 16 ≡ true

-- so a lane
mask_lane : (mask : List ℕ) (k : ℕ) → IsMask mask → k < 16 → (get_or mask k 0 ≡ 255) ⊎ (get_or mask k 0 ≡ 0)
mask_lane mask k is l =
    let m = get_or mask k 0 in
    let test = eqb-true (m % 255 + m / 256) 0 (all_below-at (λ k. nat_eq (get_or mask k 0 % 255 + get_or mask k 0 / 256) 0) 16 k is l) in
    elim (cases_lt m 1) [ inl none ↦ inr (omega (arith, none)) | inr some ↦ inl (omega (arith, test, some)) ]

-- what a mask leaves of a product is the product with what it leaves of the factor
masked : (f x m : ℕ) → f < 256 → (m ≡ 255) ⊎ (m ≡ 0) → bit_and (f ⊗ x) m ≡ bit_and f m ⊗ x
masked f x m byte which = elim which [
  | inl all ↦ ap (bit_and (f ⊗ x)) all ∙ all_bits (f ⊗ x) (mul_lt f x) ∙ ap (λ g. g ⊗ x) (sym (ap (bit_and f) all ∙ all_bits f byte))
  | inr none ↦ ap (bit_and (f ⊗ x)) none ∙ and_zero_r (f ⊗ x) ∙ sym (ap (λ g. g ⊗ x) (ap (bit_and f) none ∙ and_zero_r f) ∙ zero_mul x)
]

-- for all lanes
pub lanes-masked : (xs mask : List ℕ) (f : ℕ) (x : ℕ → ℕ) → f < 256 → IsMask mask → length mask ≡ 16 → AreLanes 16 xs (λ k. f ⊗ x k) 0
    → AreLanes 16 (zip2 bit_and xs mask) (λ k. bit_and f (get_or mask k 0) ⊗ x k) 0
lanes-masked xs mask f x byte is size are = record {
  size = length-zip2 bit_and xs mask (are.size ∙ sym size) ∙ are.size;
  each = λ k l.
      get_or-zip2 bit_and xs mask k 0 0 0 (omega (arith, are.size, l)) (omega (arith, size, l))
      ∙ ap (λ y. bit_and y (get_or mask k 0)) (are.each k l ∙ ap (λ k. f ⊗ x k) (zero-add k))
      ∙ masked f (x k) (get_or mask k 0) byte (mask_lane mask k is l)
      ∙ ap (λ k. bit_and f (get_or mask k 0) ⊗ x k) (sym (zero-add k));
}

-- the bits of the places 0 to 15
abbrev pub ones : List ℕ
ones = 0 ∷ 255 ∷ 0 ∷ 255 ∷ 0 ∷ 255 ∷ 0 ∷ 255 ∷ 0 ∷ 255 ∷ 0 ∷ 255 ∷ 0 ∷ 255 ∷ 0 ∷ 255 ∷ []

abbrev pub twos : List ℕ
twos = 0 ∷ 0 ∷ 255 ∷ 255 ∷ 0 ∷ 0 ∷ 255 ∷ 255 ∷ 0 ∷ 0 ∷ 255 ∷ 255 ∷ 0 ∷ 0 ∷ 255 ∷ 255 ∷ []

abbrev pub fours : List ℕ
fours = 0 ∷ 0 ∷ 0 ∷ 0 ∷ 255 ∷ 255 ∷ 255 ∷ 255 ∷ 0 ∷ 0 ∷ 0 ∷ 0 ∷ 255 ∷ 255 ∷ 255 ∷ 255 ∷ []

abbrev pub eights : List ℕ
eights = 0 ∷ 0 ∷ 0 ∷ 0 ∷ 0 ∷ 0 ∷ 0 ∷ 0 ∷ 255 ∷ 255 ∷ 255 ∷ 255 ∷ 255 ∷ 255 ∷ 255 ∷ 255 ∷ []

-- they are masks
pub ones_mask : IsMask ones
unfolding all_below
ones_mask = refl

pub twos_mask : IsMask twos
unfolding all_below
twos_mask = refl

pub fours_mask : IsMask fours
unfolding all_below
fours_mask = refl

pub eights_mask : IsMask eights
unfolding all_below
eights_mask = refl

-- a place from its bits
abbrev of_bits : ℕ → ℕ
of_bits k = (bit_and 1 (get_or ones k 0) ⊕ bit_and 2 (get_or twos k 0)) ⊕ (bit_and 4 (get_or fours k 0) ⊕ bit_and 8 (get_or eights k 0))

all_places : all_below (λ k. nat_eq (of_bits k) k) 16 ≡ true
unfolding all_below ◌⊕◌
all_places = refl

-- the products with the places
pub lanes-places : (a b c d : List ℕ) (x : ℕ → ℕ)
    → AreLanes 16 a (λ k. bit_and 1 (get_or ones k 0) ⊗ x k) 0 → AreLanes 16 b (λ k. bit_and 2 (get_or twos k 0) ⊗ x k) 0
    → AreLanes 16 c (λ k. bit_and 4 (get_or fours k 0) ⊗ x k) 0 → AreLanes 16 d (λ k. bit_and 8 (get_or eights k 0) ⊗ x k) 0
    → AreLanes 16 (zip2 bit_xor (zip2 bit_xor a b) (zip2 bit_xor c d)) (λ k. k ⊗ x k) 0
lanes-places a b c d x first second third fourth =
    let sums = lanes-sum (zip2 bit_xor a b) (zip2 bit_xor c d) _ _ 0 (lanes-sum a b _ _ 0 first second) (lanes-sum c d _ _ 0 third fourth) in
    record {
      size = sums.size;
      each = λ k l.
          let y = x k in
          let place : of_bits k ≡ k = eqb-true (of_bits k) k (all_below-at (λ k. nat_eq (of_bits k) k) 16 k all_places l) in
          lane-first k sums l
          ∙ ap₂ ◌⊕◌ (sym (add_mul (bit_and 1 (get_or ones k 0)) (bit_and 2 (get_or twos k 0)) y)) (sym (add_mul (bit_and 4 (get_or fours k 0)) (bit_and 8 (get_or eights k 0)) y))
          ∙ sym (add_mul (bit_and 1 (get_or ones k 0) ⊕ bit_and 2 (get_or twos k 0)) (bit_and 4 (get_or fours k 0) ⊕ bit_and 8 (get_or eights k 0)) y)
          ∙ ap (λ p. p ⊗ y) place ∙ ap (λ k. k ⊗ x k) (sym (zero-add k));
    }
