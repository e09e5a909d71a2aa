-- The bits of sums, and bytes with low bits cleared.
use Rattle.std.proofs.Common.{◌≡◌, ◌≢◌, ℕ, zero, suc, ◌+◌, ◌-◌, ◌*◌, ◌/◌, ◌%◌, ◌^◌, ◌<◌, ◌≤◌, ◌==◌, if◌then◌else◌, bit_and, refl, sym, ap, ◌∙◌, arith, inl, inr, div-add-mod'}
use Rattle.std.specs.Int.{bit_at}
use Rattle.std.proofs.lemmas.Bool.Decides.{eqb_tells}
use Rattle.std.proofs.lemmas.Nat.{pow_pos, mod_below, xor_shr, and_mask, shl_whole, shr_split}
use Rattle.std.proofs.lemmas.Nat.Bits.{bit_at-lt, bit_at-zero, bit_at_cat_low, bit_at-pow_same, bit_at-pow_other, same_from_bits_below, ones_shl, and_high_mask}
use Rattle.gf256.specs.Field.{◌⊕◌}
use Rattle.gf256.specs.Sums.{sum_to}
use Rattle.gf256.proofs.Xor.{add_shl, add_bits, bit_at_add}
use Rattle.chor_xor.specs.Bitmap.{unused_bits, cleared, unit_byte}

-- a bit of a sum is the sum of the bits
pub bit-add : (a b i : ℕ) → bit_at (a ⊕ b) i ≡ bit_at a i ⊕ bit_at b i
bit-add a b i = bit_at_add a b i ∙ add_bits (bit_at a i) (bit_at b i) (bit_at-lt a i) (bit_at-lt b i)

-- the same of many
pub bit-sum_to : (f : ℕ → ℕ) (n i : ℕ) → bit_at (sum_to f n) i ≡ sum_to (λ k. bit_at (f k) i) n
unfolding sum_to
bit-sum_to f zero i = bit_at-zero i
bit-sum_to f (suc n) i = bit-add (sum_to f n) (f n) i ∙ ap (λ x. x ⊕ bit_at (f n) i) (bit-sum_to f n i)

-- a bit by the test of it
pub bit_tested : (x : ℕ) → x < 2 → x ≡ (if x == 1 then 1 else 0)
bit_tested zero l = refl
bit_tested (suc zero) l = refl
bit_tested (suc (suc x)) l = absurd (omega arith)

-- cleared bytes add up to a cleared byte
pub cleared-add : (r k a b : ℕ) → cleared r k (a ⊕ b) ≡ cleared r k a ⊕ cleared r k b
unfolding cleared ◌⊕◌
cleared-add r k a b =
    let u = unused_bits r k in
    ap (λ x. x * 2 ^ u) (xor_shr a b u) ∙ add_shl (a / 2 ^ u) (b / 2 ^ u) u

-- 0 stays
pub cleared-zero : (r k : ℕ) → cleared r k 0 ≡ 0
unfolding cleared
cleared-zero r k = let h = shr_split 0 (unused_bits r k) in omega (arith, h)

-- the same of many
pub cleared-sum_to : (r k : ℕ) (f : ℕ → ℕ) (n : ℕ) → cleared r k (sum_to f n) ≡ sum_to (λ i. cleared r k (f i)) n
unfolding sum_to
cleared-sum_to r k f zero = cleared-zero r k
cleared-sum_to r k f (suc n) = cleared-add r k (sum_to f n) (f n) ∙ ap (λ x. x ⊕ cleared r k (f n)) (cleared-sum_to r k f n)

-- where all bits are used, none is cleared
pub cleared-none : (r k x : ℕ) → 8 * k + 8 ≤ r → cleared r k x ≡ x
unfolding cleared
cleared-none r k x l =
    let e : unused_bits r k ≡ 0 = omega arith in
    ap (λ u. x / 2 ^ u * 2 ^ u) e ∙ omega arith

-- what the code computes of the last byte
pub cleared-by_mask : (r k u x : ℕ) → u ≡ unused_bits r k → u ≤ 8 → x < 256 → bit_and x (255 * 2 ^ u % 256) ≡ cleared r k x
unfolding cleared
cleared-by_mask r k u x e few byte =
    ap (bit_and x) (ones_shl 8 u few) ∙ and_high_mask 8 u few x byte ∙ ap (λ v. x / 2 ^ v * 2 ^ v) e

-- a power of 2 as the code computes it
pub power-by_shift : (p : ℕ) → p < 8 → 1 * 2 ^ p % 256 ≡ 2 ^ p
power-by_shift p l =
    let one : 1 * 2 ^ p ≡ 2 ^ p = omega arith in
    shl_whole 1 1 p 8 (omega arith) (omega arith) ∙ one

-- the low bits by a mask
pub low_by_mask : (x u : ℕ) → u < 8 → bit_and x (1 * 2 ^ u % 256 - 1) ≡ x % 2 ^ u
low_by_mask x u few =
    ap (λ m. bit_and x (m - 1)) (power-by_shift u few) ∙ and_mask x u

-- a bit of the low ones
pub low-bit : (x u i : ℕ) → i < u → bit_at x i ≡ bit_at (x % 2 ^ u) i
low-bit x u i l = ap (λ y. bit_at y i) (sym (div-add-mod' x (2 ^ u))) ∙ bit_at_cat_low (x / 2 ^ u) u (x % 2 ^ u) i l

-- low bits that are all 0
pub low-none : (x u : ℕ) → ((i : ℕ) → i < u → bit_at x i ≡ 0) → x % 2 ^ u ≡ 0
low-none x u h =
    same_from_bits_below u (x % 2 ^ u) 0 (mod_below x (2 ^ u) (pow_pos u)) (pow_pos u)
    (λ i l. sym (low-bit x u i l) ∙ h i l ∙ sym (bit_at-zero i))

-- the bit of a block's row in its unit vector
pub unit-same : (block : ℕ) → bit_at (unit_byte block (block / 8)) (7 - block % 8) ≡ 1
unfolding unit_byte
unit-same block =
    elim (eqb_tells (block / 8) (block / 8)) [
      | inl same ↦ ap (λ t. bit_at (if t then 2 ^ (7 - block % 8) else 0) (7 - block % 8)) same.0 ∙ bit_at-pow_same (7 - block % 8)
      | inr other ↦ absurd (other.1 refl)
    ]

-- the bit of another row
pub unit-other : (block j : ℕ) → j ≢ block → bit_at (unit_byte block (j / 8)) (7 - j % 8) ≡ 0
unfolding unit_byte
unit-other block j ne =
    elim (eqb_tells (j / 8) (block / 8)) [
      | inl same ↦
          ap (λ t. bit_at (if t then 2 ^ (7 - block % 8) else 0) (7 - j % 8)) same.0
          ∙ bit_at-pow_other (7 - block % 8) (7 - j % 8) (λ e. ne (let h = same.1 in omega (arith, e, h)))
      | inr other ↦
          ap (λ t. bit_at (if t then 2 ^ (7 - block % 8) else 0) (7 - j % 8)) other.0 ∙ bit_at-zero (7 - j % 8)
    ]
