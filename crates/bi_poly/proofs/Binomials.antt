-- Binomials modulo 2: by Pascal's rule, and by the bits of the two numbers.
use Rattle.std.proofs.Common.{◌≡◌, ℕ, zero, suc, ◌+◌, ◌-◌, ◌*◌, ◌/◌, ◌%◌, ◌^◌, ◌<◌, ◌≤◌, min, cond, nat_eq, bit_and, refl, sym, ap, ap₂, subst, ◌∙◌, arith, lit<, inl, inr, add-zero, div-add-mod', eq-eqb, ne_eqb, pow-suc}
use Rattle.std.proofs.Math.Arith.{bin_ind}
use Rattle.std.proofs.lemmas.Bool.{cases_eq, cases_lt}
use Rattle.std.proofs.lemmas.Nat.{mod_below}
use Rattle.std.specs.Int.Bits.{and_step}
use Rattle.gf256.specs.Field.{◌⊕◌}
use Rattle.gf256.proofs.Xor.{sums, add_bits, add_zero, zero_add}
use Rattle.uni_poly.specs.Binomial.{binomial}
use Rattle.bi_poly.specs.Hasse.{binomial_parity}

-- Pascal's rule: over 0 they are 1,
pub binomial_parity-none : (n : ℕ) → binomial_parity n 0 ≡ 1
unfolding binomial_parity binomial
binomial_parity-none n = refl

-- of 0 over more they are 0,
pub binomial_parity-empty : (k : ℕ) → binomial_parity 0 (suc k) ≡ 0
unfolding binomial_parity binomial
binomial_parity-empty k = refl

-- and the others are sums of two
pub binomial_parity-next : (n k : ℕ) → binomial_parity (suc n) (suc k) ≡ binomial_parity n k ⊕ binomial_parity n (suc k)
unfolding binomial_parity binomial
binomial_parity-next n k =
    let a = binomial n k in
    let b = binomial n (suc k) in
    let each : (a + b) % 2 ≡ (a % 2 + b % 2) % 2 = omega arith in
    each ∙ add_bits (a % 2) (b % 2) (omega arith) (omega arith)

-- above n they are 0
pub binomial_parity-small : (n k : ℕ) → n < k → binomial_parity n k ≡ 0
binomial_parity-small n zero h = absurd (omega arith)
binomial_parity-small zero (suc k) h = binomial_parity-empty k
binomial_parity-small (suc n) (suc k) h =
    binomial_parity-next n k
    ∙ ap₂ ◌⊕◌ (binomial_parity-small n k (omega arith)) (binomial_parity-small n (suc k) (omega arith)) ∙ zero_add 0

-- where they are odd, k is at most n
pub binomial_parity-at_most : (n k : ℕ) → binomial_parity n k ≡ 1 → k ≤ n
binomial_parity-at_most n k e =
    elim (cases_lt n k) [ inl l ↦ let z = binomial_parity-small n k l in absurd (omega (arith, z, e)) | inr l ↦ l ]

-- two steps at once, where the middle cancels
binomial_parity-two : (n k : ℕ) → binomial_parity (suc (suc n)) (suc (suc k)) ≡ binomial_parity n k ⊕ binomial_parity n (suc (suc k))
binomial_parity-two n k =
    let over : ℕ → ℕ = binomial_parity n in
    let cancel : (over k ⊕ over (suc k)) ⊕ (over (suc k) ⊕ over (suc (suc k))) ≡ over k ⊕ over (suc (suc k)) = simp sums in
    binomial_parity-next (suc n) (suc k) ∙ ap₂ ◌⊕◌ (binomial_parity-next n k) (binomial_parity-next n (suc k)) ∙ cancel

-- the same for the second of a row
binomial_parity-two_one : (n : ℕ) → binomial_parity (suc (suc n)) 1 ≡ binomial_parity n 1
binomial_parity-two_one n =
    let cancel : 1 ⊕ (1 ⊕ binomial_parity n 1) ≡ binomial_parity n 1 = simp sums in
    binomial_parity-next (suc n) 0
    ∙ ap₂ ◌⊕◌ (binomial_parity-none (suc n)) (binomial_parity-next n 0 ∙ ap (λ x. x ⊕ binomial_parity n 1) (binomial_parity-none n))
    ∙ cancel

-- twice a number, by recursion
unfoldable pub twice : ℕ → ℕ
twice zero = 0
twice (suc n) = suc (suc (twice n))

-- it is the product by 2
pub twice-is : (n : ℕ) → twice n ≡ n * 2
unfolding twice
twice-is zero = refl
twice-is (suc n) = let ih = twice-is n in omega arith

-- an even number over an odd one: the lowest bit of the lower is not among those of the upper
binomial_parity-even_odd : (n k : ℕ) → binomial_parity (twice n) (suc (twice k)) ≡ 0
unfolding twice
binomial_parity-even_odd zero k = binomial_parity-empty (twice k)
binomial_parity-even_odd (suc n) zero = binomial_parity-two_one (twice n) ∙ binomial_parity-even_odd n 0
binomial_parity-even_odd (suc n) (suc k) =
    binomial_parity-two (twice n) (suc (twice k)) ∙ ap₂ ◌⊕◌ (binomial_parity-even_odd n k) (binomial_parity-even_odd n (suc k)) ∙ zero_add 0

-- an even number over an even one: their halves decide
binomial_parity-even : (n k : ℕ) → binomial_parity (twice n) (twice k) ≡ binomial_parity n k
unfolding twice
binomial_parity-even n zero = binomial_parity-none (twice n) ∙ sym (binomial_parity-none n)
binomial_parity-even zero (suc k) = binomial_parity-empty (suc (twice k)) ∙ sym (binomial_parity-empty k)
binomial_parity-even (suc n) (suc k) =
    binomial_parity-two (twice n) (twice k) ∙ ap₂ ◌⊕◌ (binomial_parity-even n k) (binomial_parity-even n (suc k))
    ∙ sym (binomial_parity-next n k)

-- an odd number over an even one: the halves decide
binomial_parity-odd_even : (n k : ℕ) → binomial_parity (suc (twice n)) (twice k) ≡ binomial_parity n k
unfolding twice
binomial_parity-odd_even n zero = binomial_parity-none (suc (twice n)) ∙ sym (binomial_parity-none n)
binomial_parity-odd_even n (suc k) =
    binomial_parity-next (twice n) (suc (twice k))
    ∙ ap₂ ◌⊕◌ (binomial_parity-even_odd n k) (binomial_parity-even n (suc k)) ∙ zero_add _

-- an odd number over an odd one: the halves decide
binomial_parity-odd : (n k : ℕ) → binomial_parity (suc (twice n)) (suc (twice k)) ≡ binomial_parity n k
binomial_parity-odd n k =
    binomial_parity-next (twice n) (twice k)
    ∙ ap₂ ◌⊕◌ (binomial_parity-even n k) (binomial_parity-even_odd n k) ∙ add_zero _

-- two tests that stand for the same
same_test : (a b c d : ℕ) → (a ≡ b → c ≡ d) → (c ≡ d → a ≡ b) → nat_eq a b ≡ nat_eq c d
same_test a b c d f g =
    elim (cases_eq a b) [
      | inl e ↦ eq-eqb a b e ∙ sym (eq-eqb c d (f e))
      | inr n ↦ ne_eqb a b n ∙ sym (ne_eqb c d (λ e. n (g e)))
    ]

-- the lowest bits, after the halves
binomial_parity-digits : (m l x y a : ℕ) → x < 2 → y < 2 → binomial_parity m l ≡ cond (nat_eq a l) 1 0 → binomial_parity (m * 2 + x) (l * 2 + y) ≡ cond (nat_eq (a * 2 + min x y) (l * 2 + y)) 1 0
binomial_parity-digits m l zero zero a h k e =
    ap₂ binomial_parity (add-zero (m * 2) ∙ sym (twice-is m)) (add-zero (l * 2) ∙ sym (twice-is l)) ∙ binomial_parity-even m l ∙ e
    ∙ ap (λ b. cond b 1 0) (same_test a l (a * 2 + 0) (l * 2 + 0) (λ q. omega arith) (λ q. omega arith))
binomial_parity-digits m l zero (suc zero) a h k e =
    let p : m * 2 + 0 ≡ twice m = add-zero (m * 2) ∙ sym (twice-is m) in
    let q : l * 2 + 1 ≡ suc (twice l) = let t = twice-is l in omega arith in
    ap₂ binomial_parity p q ∙ binomial_parity-even_odd m l
    ∙ ap (λ b. cond b 1 0) (sym (ne_eqb (a * 2 + min 0 1) (l * 2 + 1) (λ z. omega arith)))
binomial_parity-digits m l (suc zero) zero a h k e =
    let p : m * 2 + 1 ≡ suc (twice m) = let t = twice-is m in omega arith in
    ap₂ binomial_parity p (add-zero (l * 2) ∙ sym (twice-is l)) ∙ binomial_parity-odd_even m l ∙ e
    ∙ ap (λ b. cond b 1 0) (same_test a l (a * 2 + min 1 0) (l * 2 + 0) (λ q. omega arith) (λ q. omega arith))
binomial_parity-digits m l (suc zero) (suc zero) a h k e =
    let p : m * 2 + 1 ≡ suc (twice m) = let t = twice-is m in omega arith in
    let q : l * 2 + 1 ≡ suc (twice l) = let t = twice-is l in omega arith in
    ap₂ binomial_parity p q ∙ binomial_parity-odd m l ∙ e
    ∙ ap (λ b. cond b 1 0) (same_test a l (a * 2 + min 1 1) (l * 2 + 1) (λ q. omega arith) (λ q. omega arith))
binomial_parity-digits m l (suc (suc x)) y a h k e = absurd (omega arith)
binomial_parity-digits m l zero (suc (suc y)) a h k e = absurd (omega arith)
binomial_parity-digits m l (suc zero) (suc (suc y)) a h k e = absurd (omega arith)

-- 0 has no bits
binomial_parity-zero : (k : ℕ) → binomial_parity 0 k ≡ cond (nat_eq (bit_and 0 k) k) 1 0
binomial_parity-zero zero = binomial_parity-none 0
binomial_parity-zero (suc k) = binomial_parity-empty k ∙ ap (λ b. cond b 1 0) (sym (ne_eqb 0 (suc k) (λ z. omega arith)))

-- C(n, k) is odd exactly where the bits of k are among those of n
pub binomial_parity-bits : (n k : ℕ) → binomial_parity n k ≡ cond (nat_eq (bit_and n k) k) 1 0
binomial_parity-bits =
    bin_ind (λ n. (k : ℕ) → binomial_parity n k ≡ cond (nat_eq (bit_and n k) k) 1 0) binomial_parity-zero (λ n ih k.
    let parts = binomial_parity-digits (n / 2) (k / 2) (n % 2) (k % 2) (bit_and (n / 2) (k / 2)) (mod_below n 2 (lit< tt)) (mod_below k 2 (lit< tt)) (ih (k / 2)) in
    ap₂ binomial_parity (sym (div-add-mod' n 2)) (sym (div-add-mod' k 2)) ∙ parts
    ∙ ap₂ (λ x y. cond (nat_eq x y) 1 0) (sym (and_step n k)) (div-add-mod' k 2))

-- Pascal's rule with steps of e: over less than e a step changes nothing, and over e and more it gives the sum of two
pub record HasPascalSteps (e : ℕ) : Type 0 where
  pub below : (n k : ℕ) → k < e → binomial_parity (e + n) k ≡ binomial_parity n k
  pub above : (n k : ℕ) → binomial_parity (e + n) (e + k) ≡ binomial_parity n k ⊕ binomial_parity n (e + k)

-- single steps are Pascal's
pascal_steps-one : HasPascalSteps 1
pascal_steps-one = record {
  below = λ n k l.
      let none : k ≡ 0 = omega (arith, l) in
      ap (binomial_parity (1 + n)) none ∙ binomial_parity-none (1 + n) ∙ sym (ap (binomial_parity n) none ∙ binomial_parity-none n);
  above = λ n k.
      let next : 1 + n ≡ suc n = omega arith in
      let over : 1 + k ≡ suc k = omega arith in
      ap₂ binomial_parity next over ∙ binomial_parity-next n k ∙ ap (λ j. binomial_parity n k ⊕ binomial_parity n j) (sym over);
}

-- two steps at once, where the middle cancels
pascal_steps-twice : (e : ℕ) → HasPascalSteps e → HasPascalSteps (e + e)
pascal_steps-twice e step =
    let over : ℕ → ℕ → ℕ = binomial_parity in
    let apart : (n : ℕ) → e + e + n ≡ e + (e + n) = λ n. omega arith in
    record {
      below = λ n k l. elim (cases_lt k e) [
        | inl low ↦ ap (λ m. over m k) (apart n) ∙ step.below (e + n) k low ∙ step.below n k low
        | inr high ↦
            let j = k - e in
            let place : e + j ≡ k = omega (arith, high) in
            let cancel : over n j ⊕ (over n j ⊕ over n (e + j)) ≡ over n (e + j) = simp sums in
            ap₂ over (apart n) (sym place) ∙ step.above (e + n) j ∙ ap₂ ◌⊕◌ (step.below n j (omega (arith, l, high))) (step.above n j)
            ∙ cancel ∙ ap (over n) place
      ];
      above = λ n k.
          let cancel : (over n k ⊕ over n (e + k)) ⊕ (over n (e + k) ⊕ over n (e + (e + k))) ≡ over n k ⊕ over n (e + (e + k)) = simp sums in
          ap₂ over (apart n) (apart k) ∙ step.above (e + n) (e + k) ∙ ap₂ ◌⊕◌ (step.above n k) (step.above n (e + k))
          ∙ cancel ∙ ap (λ j. over n k ⊕ over n j) (sym (apart k));
    }

-- so with steps of a power of two (Lucas 1878)
pub pascal_steps-power : (s : ℕ) → HasPascalSteps (2 ^ s)
pascal_steps-power zero = pascal_steps-one
pascal_steps-power (suc s) =
    subst HasPascalSteps (let twice : 2 ^ s + 2 ^ s ≡ 2 ^ suc s = omega (arith, pow-suc 2 s) in twice) (pascal_steps-twice (2 ^ s) (pascal_steps-power s))
