-- The places of rows' bits in a bitmap, and its unused bits.
use Rattle.std.proofs.Common.{◌≡◌, ℕ, ◌+◌, ◌-◌, ◌*◌, ◌/◌, ◌%◌, ◌^◌, ◌<◌, ◌≤◌, not, List, length, get_or, set, inl, inr, sym, ap, subst, ◌∙◌, arith}
use Rattle.std.specs.Prelude.{MatchBool}
use Rattle.std.specs.Int.{bit_at}
use Rattle.std.proofs.lemmas.Bool.{cases_lt}
use Rattle.std.proofs.lemmas.Bool.Decides.{eqb_tells}
use Rattle.std.proofs.lemmas.List.{get_or_past, get_or-set_same, get_or-set_other}
use Rattle.std.proofs.lemmas.Nat.Bits.{bit_at-zero}
use Rattle.chor_xor.specs.Bitmap.{bit_of, size_of, unused_bits, cleared, IsTrim, has_unused}
use Rattle.chor_xor.proofs.Bits.{cleared-none, cleared-zero, low-bit, low-none}

-- the last byte with its unused bits cleared: no other has some
pub cleared-last : (bitmap : List ℕ) (r x : ℕ) → 1 ≤ r → length bitmap ≡ size_of r → x ≡ cleared r (length bitmap - 1) (get_or bitmap (length bitmap - 1) 0)
    → (k : ℕ) → get_or (set bitmap (length bitmap - 1) x) k 0 ≡ cleared r k (get_or bitmap k 0)
cleared-last bitmap r x some size is k =
    let last = length bitmap - 1 in
    elim (cases_lt k last) [
      | inl low ↦
          get_or-set_other bitmap last k x 0 (λ same. omega arith)
          ∙ sym (cleared-none r k (get_or bitmap k 0) (omega arith))
      | inr high ↦
          elim (cases_lt last k) [
            | inl past ↦
                get_or-set_other bitmap last k x 0 (λ same. omega arith)
                ∙ get_or_past bitmap k 0 (omega arith) ∙ sym (cleared-zero r k)
                ∙ ap (cleared r k) (sym (get_or_past bitmap k 0 (omega arith)))
            | inr here ↦
                let same : last ≡ k = omega arith in
                subst (λ j. get_or (set bitmap last x) j 0 ≡ cleared r j (get_or bitmap j 0)) same
                (get_or-set_same bitmap last x 0 (omega arith) ∙ is)
          ]
    ]

-- where the low bits of the last byte are 0, so are all unused bits
trim-from_low : (bitmap : List ℕ) (r : ℕ) → 1 ≤ r → length bitmap ≡ size_of r
    → get_or bitmap (size_of r - 1) 0 % 2 ^ unused_bits r (size_of r - 1) ≡ 0 → IsTrim r bitmap
unfolding bit_of
trim-from_low bitmap r some size none j past =
    elim (cases_lt (j / 8) (length bitmap)) [
      | inl within ↦
          let last = size_of r - 1 in
          let here : j / 8 ≡ last = omega (arith, size, some, past, within) in
          let byte = get_or bitmap last 0 in
          let low : 7 - j % 8 < unused_bits r last = omega (arith, size, some, past, within) in
          ap (λ k. bit_at (get_or bitmap k 0) (7 - j % 8)) here
          ∙ low-bit byte (unused_bits r last) (7 - j % 8) low
          ∙ ap (λ b. bit_at b (7 - j % 8)) none ∙ bit_at-zero (7 - j % 8)
      | inr beyond ↦
          ap (λ b. bit_at b (7 - j % 8)) (get_or_past bitmap (j / 8) 0 beyond) ∙ bit_at-zero (7 - j % 8)
    ]

-- where all unused bits are 0, so are the low bits of the last byte
low-from_trim : (bitmap : List ℕ) (r : ℕ) → 1 ≤ r → IsTrim r bitmap
    → get_or bitmap (size_of r - 1) 0 % 2 ^ unused_bits r (size_of r - 1) ≡ 0
unfolding bit_of
low-from_trim bitmap r some trim =
    let last = size_of r - 1 in
    low-none (get_or bitmap last 0) (unused_bits r last)
    (λ i l.
    let j = 8 * last + (7 - i) in
    let byte : j / 8 ≡ last = omega (arith, l) in
    let place : 7 - j % 8 ≡ i = omega (arith, l) in
    ap (bit_at (get_or bitmap last 0)) (sym place) ∙ ap (λ k. bit_at (get_or bitmap k 0) (7 - j % 8)) (sym byte) ∙ trim j (omega (arith, l, some)))

-- what the test of the last byte says of all unused bits
pub trim_tested : (bitmap : List ℕ) (r : ℕ) → 1 ≤ r → length bitmap ≡ size_of r
    → MatchBool (has_unused r bitmap) (IsTrim r bitmap → ⊥) (IsTrim r bitmap)
unfolding has_unused
trim_tested bitmap r some size =
    let low = get_or bitmap (size_of r - 1) 0 % 2 ^ unused_bits r (size_of r - 1) in
    elim (eqb_tells low 0) [
      | inl none ↦ subst (λ b. MatchBool (not b) (IsTrim r bitmap → ⊥) (IsTrim r bitmap)) (sym none.0) (trim-from_low bitmap r some size none.1)
      | inr one ↦ subst (λ b. MatchBool (not b) (IsTrim r bitmap → ⊥) (IsTrim r bitmap)) (sym one.0) (λ trim. one.1 (low-from_trim bitmap r some trim))
    ]
