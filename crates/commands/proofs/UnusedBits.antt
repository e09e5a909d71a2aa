-- The bitmap that a client sends sets no unused bit, whatever the coins.
use Rattle.std.proofs.Common.{◌≡◌, ℕ, ◌+◌, ◌-◌, ◌*◌, ◌/◌, ◌%◌, ◌^◌, ◌<◌, ◌==◌, not, false, List, get_or, inl, inr, sym, ap, ap₂, ◌∙◌, arith}
use Rattle.std.specs.Int.{bit_at}
use Rattle.std.proofs.Math.Nat.{mul-mod_left}
use Rattle.std.proofs.lemmas.Bool.{cases_eq}
use Rattle.std.proofs.lemmas.Nat.Bits.{bit_at-zero}
use Rattle.gf256.specs.Field.{◌⊕◌}
use Rattle.gf256.specs.Sums.{sum_to}
use Rattle.gf256.proofs.Xor.{add_zero}
use Rattle.chor_xor.specs.Bitmap.{bitmap, cleared, has_unused, last_byte, random_byte, size_of, unit_byte, unused_bits}
use Rattle.chor_xor.proofs.Bits.{bit-add, cleared-sum_to, low-bit, low-none, unit-other}
use Rattle.chor_xor.proofs.Shares.{bitmap-last, bitmap-random}

-- a byte with its unused bits cleared has none that is set
none_cleared : (r k x i : ℕ) → i < unused_bits r k → bit_at (cleared r k x) i ≡ 0
unfolding cleared
none_cleared r k x i low =
    let u = unused_bits r k in
    low-bit (x / 2 ^ u * 2 ^ u) u i low ∙ ap (λ y. bit_at y i) (mul-mod_left (x / 2 ^ u) (2 ^ u)) ∙ bit_at-zero i

-- nor has the unit vector of a row
none_of_row : (r block k i : ℕ) → block < r → i < 8 → i < unused_bits r k → bit_at (unit_byte block k) i ≡ 0
none_of_row r block k i row few low =
    let j = 8 * k + (7 - i) in
    let byte : j / 8 ≡ k = omega (arith, few) in
    let place : 7 - j % 8 ≡ i = omega (arith, few) in
    ap (bit_at (unit_byte block k)) (sym place) ∙ ap (λ m. bit_at (unit_byte block m) (7 - j % 8)) (sym byte)
    ∙ unit-other block j (λ e. omega (arith, e, row, few, low))

-- nor have those of the coins
none_of_coins : (coins : List ℕ) (r j k i : ℕ) → i < unused_bits r k → bit_at (random_byte coins r j k) i ≡ 0
unfolding random_byte
none_of_coins coins r j k i low = none_cleared r k (get_or coins (j * size_of r + k) 0) i low

-- nor their sum with a unit vector
none_of_sum : (coins : List ℕ) (n r block k i : ℕ) → block < r → i < 8 → i < unused_bits r k → bit_at (last_byte coins n r block k) i ≡ 0
unfolding last_byte random_byte
none_of_sum coins n r block k i row few low =
    let coin : ℕ → ℕ = λ j. get_or coins (j * size_of r + k) 0 in
    bit-add (sum_to (λ j. cleared r k (coin j)) (n - 1)) (unit_byte block k) i
    ∙ ap₂ ◌⊕◌ (ap (λ x. bit_at x i) (sym (cleared-sum_to r k coin (n - 1))) ∙ none_cleared r k (sum_to coin (n - 1)) i low) (none_of_row r block k i row few low)
    ∙ add_zero 0

-- so no server is sent one that is set
pub none_unused : (coins : List ℕ) (n r block index : ℕ) → block < r → has_unused r (bitmap coins n r block index) ≡ false
unfolding has_unused
none_unused coins n r block index row =
    let k = size_of r - 1 in
    let within : k < size_of r = omega (arith, row) in
    ap (λ x. not (x == 0)) (low-none (get_or (bitmap coins n r block index) k 0) (unused_bits r k) (λ i low.
    elim (cases_eq index n) [
      | inl last ↦
          ap (λ m. bit_at (get_or (bitmap coins n r block m) k 0) i) last ∙ ap (λ x. bit_at x i) (bitmap-last coins n r block k within)
          ∙ none_of_sum coins n r block k i row (omega (arith, row, low)) low
      | inr other ↦
          ap (λ x. bit_at x i) (bitmap-random coins n r block index k within other) ∙ none_of_coins coins r (index - 1) k i low
    ]))
