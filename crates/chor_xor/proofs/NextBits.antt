-- The search for the next row whose bit is set, byte after byte.
use Rattle.std.proofs.Common.{◌≡◌, ◌≢◌, ℕ, suc, ◌+◌, ◌-◌, ◌*◌, ◌/◌, ◌%◌, ◌^◌, ◌<◌, ◌≤◌, List, get_or, bit_and, inl, inr, sym, ap, ◌∙◌, arith}
use Rattle.std.specs.Int.{bit_at}
use Rattle.std.specs.Int.Count.{count_leading_zeros}
use Rattle.std.proofs.Math.Nat.{pow-suc}
use Rattle.std.proofs.lemmas.Bool.{cases_lt}
use Rattle.std.proofs.lemmas.Nat.{pow_pos, mod_below, and_mask, leading_top, le-div, div_below}
use Rattle.std.proofs.lemmas.Nat.Bits.{bit_at-zero, bit_at_above, ones_shr}
use Rattle.chor_xor.specs.Bitmap.{bit_of}
use Rattle.chor_xor.proofs.Bits.{low-bit}

-- no row from `from` on before a byte has its bit set, and `rest` has the bits of this byte from
-- `from` on
pub record IsRest (bitmap : List ℕ) (from byte rest : ℕ) : Type 0 where
  pub begun : from < 8 * byte + 8
  pub passed : (j : ℕ) → from ≤ j → j < 8 * byte → bit_of bitmap j ≡ 0
  pub within : (j : ℕ) → from ≤ j → j / 8 ≡ byte → bit_at rest (7 - j % 8) ≡ bit_of bitmap j
  pub before : (j : ℕ) → j < from → j / 8 ≡ byte → bit_at rest (7 - j % 8) ≡ 0

-- the byte of the first row, with the bits of the rows before it cleared
pub rest-first : (bitmap : List ℕ) (from : ℕ) → IsRest bitmap from (from / 8) (bit_and (get_or bitmap (from / 8) 0) (255 / 2 ^ (from % 8)))
unfolding bit_of
rest-first bitmap from =
    let byte = get_or bitmap (from / 8) 0 in
    let m = from % 8 in
    let e : bit_and byte (255 / 2 ^ m) ≡ byte % 2 ^ (8 - m) = ap (bit_and byte) (ones_shr 8 m (omega arith)) ∙ and_mask byte (8 - m) in
    record {
      begun = omega arith;
      passed = λ j l h. absurd (omega (arith, l, h));
      within = λ j l same.
          ap (λ x. bit_at x (7 - j % 8)) e ∙ sym (low-bit byte (8 - m) (7 - j % 8) (omega (arith, l, same)))
          ∙ ap (λ k. bit_at (get_or bitmap k 0) (7 - j % 8)) (sym same);
      before = λ j l same.
          ap (λ x. bit_at x (7 - j % 8)) e
          ∙ bit_at_above (byte % 2 ^ (8 - m)) (8 - m) (7 - j % 8) (mod_below byte (2 ^ (8 - m)) (pow_pos (8 - m))) (omega (arith, l, same));
    }

-- where the rest is 0, no row of its byte has its bit set either
pub rest-none : (bitmap : List ℕ) (from byte rest : ℕ) → rest ≡ 0 → IsRest bitmap from byte rest
    → (j : ℕ) → from ≤ j → j < 8 * byte + 8 → bit_of bitmap j ≡ 0
rest-none bitmap from byte rest e is j l h =
    elim (cases_lt j (8 * byte)) [
      | inl low ↦ is.passed j l low
      | inr here ↦ sym (is.within j l (omega (arith, here, h))) ∙ ap (λ x. bit_at x (7 - j % 8)) e ∙ bit_at-zero (7 - j % 8)
    ]

-- the next byte
pub rest-next : (bitmap : List ℕ) (from byte rest : ℕ) → rest ≡ 0 → IsRest bitmap from byte rest → IsRest bitmap from (byte + 1) (get_or bitmap (byte + 1) 0)
unfolding bit_of
rest-next bitmap from byte rest e is = record {
  begun = let h = is.begun in omega (arith, h);
  passed = λ j l h. rest-none bitmap from byte rest e is j l (omega (arith, h));
  within = λ j l same. ap (λ k. bit_at (get_or bitmap k 0) (7 - j % 8)) (sym same);
  before = λ j l same. absurd (let h = is.begun in omega (arith, l, same, h));
}

-- the row of the greatest bit of a rest
pub record IsNext (bitmap : List ℕ) (from row : ℕ) : Type 0 where
  pub begun : from ≤ row
  pub set : bit_of bitmap row ≡ 1
  pub others : (j : ℕ) → from ≤ j → j < row → bit_of bitmap j ≡ 0

-- the greatest bit of a byte that isn't 0
greatest : (x j : ℕ) → 2 ^ j ≤ x → x < 2 ^ suc j → bit_at x j ≡ 1
greatest x j l h =
    let some : 1 ≤ x / 2 ^ j = le-div 1 x (2 ^ j) (pow_pos j) (omega (arith, l)) in
    let one : x / 2 ^ j < 2 = div_below x (2 ^ j) 2 (pow_pos j) (omega (arith, h, pow-suc 2 j)) in
    let e : x / 2 ^ j ≡ 1 = omega (arith, some, one) in
    ap (λ q. q % 2) e

-- the row of the greatest bit of the rest is the next whose bit is set
pub rest-found : (bitmap : List ℕ) (from byte rest : ℕ) → rest ≢ 0 → rest < 256 → IsRest bitmap from byte rest
    → IsNext bitmap from (8 * byte + count_leading_zeros 8 rest)
rest-found bitmap from byte rest ne small is =
    let top = leading_top 8 rest (omega (arith, ne)) small in
    let j = top.0 in
    let row = 8 * byte + count_leading_zeros 8 rest in
    let here : row / 8 ≡ byte = omega (arith, top.1) in
    let place : 7 - row % 8 ≡ j = omega (arith, top.1) in
    let one : bit_at rest (7 - row % 8) ≡ 1 = ap (bit_at rest) place ∙ greatest rest j top.2 top.3 in
    let begun : from ≤ row =
    elim (cases_lt row from) [
      | inl low ↦ absurd (let zero_too = is.before row low here in omega (arith, one, zero_too))
      | inr past ↦ past
    ] in
    record {
      begun = begun;
      set = sym (is.within row begun here) ∙ one;
      others = λ i l h.
          elim (cases_lt i (8 * byte)) [
            | inl low ↦ is.passed i l low
            | inr same ↦
                sym (is.within i l (omega (arith, same, h, top.1)))
                ∙ bit_at_above rest (suc j) (7 - i % 8) top.3 (omega (arith, same, h, top.1))
          ];
    }
