-- The Hasse derivatives of a polynomial in one variable are the coefficients of its Taylor series.
use Rattle.std.proofs.Common.{◌≡◌, ℕ, zero, suc, ◌+◌, ◌-◌, ◌≤◌, List, [], ◌∷◌, length, get_or, sym, ap, ap₂, ◌∙◌, arith, inl, inr, add-one}
use Rattle.std.proofs.lemmas.List.{get_or_past}
use Rattle.std.proofs.Math.Nat.{sub-zero}
use Rattle.std.proofs.lemmas.Bool.{cases_lt}
use Rattle.gf256.specs.Field.{◌⊕◌, ◌⊗◌, power}
use Rattle.gf256.specs.Sums.{sum_to}
use Rattle.gf256.proofs.Xor.{zero_add, add_zero}
use Rattle.gf256.proofs.FieldLaws.{ring, add_mul, mul_zero, zero_mul, one_mul_mul, mul_comm}
use Rattle.gf256.proofs.Sums.{sum_to-first, sum_to-same, sum_to-add, mul-sum_to, sum_to-zero, sum_to-longer}
use Rattle.gf256.specs.Polynomial.{coef}
use Rattle.uni_poly.specs.Taylor.{taylor}
use Rattle.bi_poly.specs.Hasse.{binomial_parity, derivative}
use Rattle.bi_poly.proofs.Binomials.{binomial_parity-none, binomial_parity-empty, binomial_parity-next, binomial_parity-small}

-- a term at the next place
term_zero : (c a i : ℕ) → binomial_parity (suc i) 0 ⊗ (c ⊗ power a (suc i - 0)) ≡ a ⊗ (binomial_parity i 0 ⊗ (c ⊗ power a (i - 0)))
unfolding power
term_zero c a i =
    ap₂ (λ b k. b ⊗ (c ⊗ power a k)) (binomial_parity-none (suc i)) (sub-zero (suc i)) ∙ (simp ring)
    ∙ sym (ap₂ (λ b k. a ⊗ (b ⊗ (c ⊗ power a k))) (binomial_parity-none i) (sub-zero i))

-- the other part of a term at the next place, by Pascal's rule
later_term : (c a i u : ℕ) → binomial_parity i (suc u) ⊗ (c ⊗ power a (i - u)) ≡ a ⊗ (binomial_parity i (suc u) ⊗ (c ⊗ power a (i - suc u)))
unfolding power
later_term c a i u =
    elim (cases_lt u i) [
      | inl l ↦
          let e : i - u ≡ suc (i - suc u) = omega arith in
          ap (λ k. binomial_parity i (suc u) ⊗ (c ⊗ power a k)) e ∙ simp ring
      | inr l ↦
          let z = binomial_parity-small i (suc u) (omega arith) in
          ap (λ x. x ⊗ (c ⊗ power a (i - u))) z ∙ zero_mul _
          ∙ sym (ap (λ x. a ⊗ (x ⊗ (c ⊗ power a (i - suc u)))) z ∙ ap (◌⊗◌ a) (zero_mul _) ∙ mul_zero a)
    ]

-- a term of a later order at the next place
term_suc : (c a i u : ℕ) → binomial_parity (suc i) (suc u) ⊗ (c ⊗ power a (suc i - suc u)) ≡ binomial_parity i u ⊗ (c ⊗ power a (i - u)) ⊕ a ⊗ (binomial_parity i (suc u) ⊗ (c ⊗ power a (i - suc u)))
term_suc c a i u =
    let s : suc i - suc u ≡ i - u = omega arith in
    ap₂ (λ b k. b ⊗ (c ⊗ power a k)) (binomial_parity-next i u) s ∙ add_mul _ _ _
    ∙ ap (◌⊕◌ (binomial_parity i u ⊗ (c ⊗ power a (i - u)))) (later_term c a i u)

-- the coefficient at x ^ u of p(x + a) is the derivative of order u
pub taylor-derivative : (p : List ℕ) (a u : ℕ) → taylor p a u ≡ derivative p a u
unfolding taylor derivative coef power
taylor-derivative [] a u = sym (sum_to-zero _ 0 (λ i l. absurd (omega arith)))
taylor-derivative (c ∷ p) a zero =
    let n = length p in
    let F = λ (i : ℕ). binomial_parity i 0 ⊗ (get_or (c ∷ p) i 0 ⊗ power a (i - 0)) in
    let G = λ (i : ℕ). binomial_parity i 0 ⊗ (get_or p i 0 ⊗ power a (i - 0)) in
    ap₂ ◌⊕◌ (sym (ap (λ b. b ⊗ (c ⊗ 1)) (binomial_parity-none 0) ∙ one_mul_mul c 1))
    (ap (◌⊗◌ a) (taylor-derivative p a 0) ∙ mul-sum_to a G n ∙ sum_to-same (λ i. a ⊗ G i) (λ i. F (suc i)) n (λ i l. sym (term_zero (get_or p i 0) a i)))
    ∙ sym (sum_to-first F n)
taylor-derivative (c ∷ p) a (suc u) =
    let n = length p in
    let F = λ (i : ℕ). binomial_parity i (suc u) ⊗ (get_or (c ∷ p) i 0 ⊗ power a (i - suc u)) in
    let G = λ (i : ℕ). binomial_parity i u ⊗ (get_or p i 0 ⊗ power a (i - u)) in
    let H = λ (i : ℕ). binomial_parity i (suc u) ⊗ (get_or p i 0 ⊗ power a (i - suc u)) in
    ap₂ ◌⊕◌ (taylor-derivative p a u) (ap (◌⊗◌ a) (taylor-derivative p a (suc u)) ∙ mul-sum_to a H n)
    ∙ sym (sum_to-add G (λ i. a ⊗ H i) n)
    ∙ sum_to-same (λ i. G i ⊕ a ⊗ H i) (λ i. F (suc i)) n (λ i l. sym (term_suc (get_or p i 0) a i u))
    ∙ sym (zero_add _)
    ∙ ap (λ x. x ⊕ sum_to (λ i. F (suc i)) n) (sym (ap (λ b. b ⊗ (c ⊗ power a (0 - suc u))) (binomial_parity-empty u) ∙ zero_mul _))
    ∙ sym (sum_to-first F n)

-- the sum of the first n terms
unfoldable pub derivative_to : List ℕ → ℕ → ℕ → ℕ → ℕ
derivative_to p a u n = sum_to (λ i. binomial_parity i u ⊗ (coef p i ⊗ power a (i - u))) n

-- the terms before the order are 0
pub derivative_to-start : (p : List ℕ) (a u : ℕ) → derivative_to p a u u ≡ 0
unfolding derivative_to
derivative_to-start p a u = sum_to-zero _ u (λ i l. ap (λ x. x ⊗ (coef p i ⊗ power a (i - u))) (binomial_parity-small i u l) ∙ zero_mul _)

-- a term with an odd binomial
pub derivative_to-odd : (p : List ℕ) (a u i : ℕ) → binomial_parity i u ≡ 1 → derivative_to p a u (i + 1) ≡ derivative_to p a u i ⊕ coef p i ⊗ power a (i - u)
unfolding derivative_to sum_to
derivative_to-odd p a u i h =
    ap (sum_to (λ i. binomial_parity i u ⊗ (coef p i ⊗ power a (i - u)))) (add-one i)
    ∙ ap (◌⊕◌ (derivative_to p a u i)) (ap (λ x. x ⊗ (coef p i ⊗ power a (i - u))) h ∙ one_mul_mul (coef p i) (power a (i - u)))

-- a term with an even binomial
pub derivative_to-even : (p : List ℕ) (a u i : ℕ) → binomial_parity i u ≡ 0 → derivative_to p a u (i + 1) ≡ derivative_to p a u i
unfolding derivative_to sum_to
derivative_to-even p a u i h =
    ap (sum_to (λ i. binomial_parity i u ⊗ (coef p i ⊗ power a (i - u)))) (add-one i)
    ∙ ap (◌⊕◌ (derivative_to p a u i)) (ap (λ x. x ⊗ (coef p i ⊗ power a (i - u))) h ∙ zero_mul _)
    ∙ add_zero _

-- past the last coefficient the sum is whole
pub derivative_to-all : (p : List ℕ) (a u n : ℕ) → length p ≤ n → derivative_to p a u n ≡ derivative p a u
unfolding derivative_to derivative coef
derivative_to-all p a u n l =
    sum_to-longer _ (length p) n l (λ i k.
    ap (λ x. binomial_parity i u ⊗ (x ⊗ power a (i - u))) (get_or_past p i 0 k) ∙ ap (◌⊗◌ (binomial_parity i u)) (zero_mul _) ∙ mul_zero _)

-- the next power
pub power-next : (a i u : ℕ) → u ≤ i → power a (i + 1 - u) ≡ power a (i - u) ⊗ a
unfolding power
power-next a i u l = let e : i + 1 - u ≡ suc (i - u) = omega arith in ap (power a) e ∙ mul_comm a (power a (i - u))

-- the first power
pub power-start : (a u : ℕ) → power a (u - u) ≡ 1
unfolding power
power-start a u = let e : u - u ≡ 0 = omega arith in ap (power a) e
