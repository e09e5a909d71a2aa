-- The degree of q(x, phi(x)) is at most the weighted degree of q, where the weight of y is the degree of phi or more, and
-- its coefficients are bytes (Guruswami and Sudan 1999).
use Rattle.std.proofs.Common.{◌≡◌, ℕ, zero, suc, ◌+◌, ◌*◌, ◌-◌, ◌<◌, ◌≤◌, List, [], ◌∷◌, lit<, sym, ap, ap₂, ◌∙◌, arith, inl, inr}
use Rattle.std.proofs.lemmas.Bool.{cases_lt}
use Rattle.gf256.specs.Field.{◌⊕◌, ◌⊗◌}
use Rattle.gf256.proofs.Xor.{zero_add, add_lt}
use Rattle.gf256.proofs.FieldLaws.{mul_zero, zero_mul, mul_lt}
use Rattle.uni_poly.proofs.Series.{ext, tail, times}
use Rattle.bi_poly.specs.Rows.{cell, AreBytes}
use Rattle.bi_poly.proofs.Composition.{at_series, times-zero}

-- f is 0 above t
abbrev IsZeroAbove : ℕ → (ℕ → ℕ) → Type 0
IsZeroAbove t f = (e : ℕ) → t < e → f e ≡ 0

-- g is 0 from n on
abbrev IsZeroFrom : ℕ → (ℕ → ℕ) → Type 0
IsZeroFrom n g = (e : ℕ) → n ≤ e → g e ≡ 0

-- a product with 0
times-none : (f g : ℕ → ℕ) (e : ℕ) → IsZeroFrom 0 g → times f g e ≡ 0
times-none f g e z = ap (λ s. times f s e) (ext g (λ i. 0) (λ i. z i (omega arith))) ∙ times-zero f e

-- a product with 0 is 0
none-times : (f g : ℕ → ℕ) (e : ℕ) → IsZeroFrom 0 f → times f g e ≡ 0
unfolding times tail
none-times f g zero z = ap (λ x. x ⊗ g 0) (z 0 (omega arith)) ∙ zero_mul _
none-times f g (suc e) z =
    ap₂ ◌⊕◌ (ap (λ x. x ⊗ g (suc e)) (z 0 (omega arith)) ∙ zero_mul _) (none-times (tail f) g e (λ i l. z (suc i) (omega arith))) ∙ zero_add 0

-- the degrees of the factors add up
times-degree : (f g : ℕ → ℕ) (t n e : ℕ) → IsZeroAbove t f → IsZeroFrom n g → n + t ≤ e → times f g e ≡ 0
unfolding times tail
times-degree f g t n zero hf hg l = ap (λ x. f 0 ⊗ x) (hg 0 (omega arith)) ∙ mul_zero _
times-degree f g zero n (suc e) hf hg l =
    ap₂ ◌⊕◌ (ap (λ x. f 0 ⊗ x) (hg (suc e) (omega arith)) ∙ mul_zero _) (none-times (tail f) g e (λ i k. hf (suc i) (omega arith))) ∙ zero_add 0
times-degree f g (suc t) n (suc e) hf hg l =
    ap₂ ◌⊕◌ (ap (λ x. f 0 ⊗ x) (hg (suc e) (omega arith)) ∙ mul_zero _)
    (times-degree (tail f) g t n e (λ i k. hf (suc i) (omega arith)) hg (omega arith)) ∙ zero_add 0

-- q has no coefficient of the weight n or more
abbrev pub IsLighterThan : ℕ → ℕ → List (List ℕ) → Type 0
IsLighterThan n t q = (j i : ℕ) → n ≤ i + t * j → cell q j i ≡ 0

-- without row 0 it is lighter by t
lighter-later : (n t : ℕ) (r : List ℕ) (q : List (List ℕ)) → IsLighterThan n t (r ∷ q) → IsLighterThan (n - t) t q
unfolding cell
lighter-later n t r q h j i l = h (suc j) i (omega arith)

-- the degree of q(x, f) is below n
pub at_series-degree : (q : List (List ℕ)) (f : ℕ → ℕ) (t n : ℕ) → IsZeroAbove t f → IsLighterThan n t q → IsZeroFrom n (at_series q f)
unfolding at_series cell
at_series-degree [] f t n hf h e l = sym (zero_add 0) ∙ zero_add 0
at_series-degree (r ∷ q) f t n hf h e l =
    let later = at_series-degree q f t (n - t) hf (lighter-later n t r q h) in
    ap₂ ◌⊕◌ (h 0 e (omega arith))
    (elim (cases_lt n t) [
      | inl k ↦ times-none f (at_series q f) e (λ i s. later i (omega arith))
      | inr k ↦ times-degree f (at_series q f) t (n - t) e hf later (omega arith)
    ]) ∙ zero_add 0

-- a product has bytes
times_lt : (f g : ℕ → ℕ) (e : ℕ) → times f g e < 256
unfolding times
times_lt f g zero = mul_lt _ _
times_lt f g (suc e) = add_lt _ _ (mul_lt _ _) (times_lt (tail f) g e)

-- the coefficients of q(x, f) are bytes
pub at_series-bytes : (q : List (List ℕ)) (f : ℕ → ℕ) (e : ℕ) → AreBytes q → at_series q f e < 256
unfolding at_series cell
at_series-bytes [] f e h = lit< tt
at_series-bytes (r ∷ q) f e h = add_lt _ _ (h 0 e) (times_lt f (at_series q f) e)
