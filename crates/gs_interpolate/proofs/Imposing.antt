-- What imposing a condition keeps, and what it gains.
use Rattle.std.proofs.Common.{◌≡◌, ◌≢◌, ℕ, zero, suc, ◌+◌, ◌<◌, List, length, get_or, refl, sym, ap, ap₂, ◌∙◌, subst, arith, inl, inr, length-set, get_or-set_same, get_or-set_other}
use Rattle.std.proofs.lemmas.Bool.{cases_eq}
use Rattle.gf256.specs.Field.{◌⊕◌, ◌⊗◌, inverse}
use Rattle.gf256.proofs.Xor.{add_zero, add_self}
use Rattle.gf256.proofs.FieldLaws.{mul_zero, zero_mul, mul_one, mul_assoc, mul_comm}
use Rattle.gf256.proofs.Powers.{mul_inverse}
use Rattle.bi_poly.specs.Hasse.{hasse}
use Rattle.bi_poly.proofs.Combination.{hasse_lt}
use Rattle.gs_interpolate.specs.Family.{member}
use Rattle.gs_interpolate.specs.Basis.{Polynomials, with_rows, polynomial, factor, LeadsBefore, IsLed, IsLight, IsBasis, IsPivot, IsStep, IsStepOrNone, AreValues, IsImposed}
use Rattle.gs_interpolate.specs.declared.condition.Condition.{Condition}
use Rattle.gs_interpolate.proofs.Combinations.{hasse-multiple, hasse-raised_first, hasse-raised_later}
use Rattle.gs_interpolate.proofs.Leading.{led-added, led-same, led-raised, nothing}

-- a value is its factor times that of the pivot
value-factor : (x y : ℕ) → x < 256 → y < 256 → y ≢ 0 → x ≡ (x ⊗ inverse y) ⊗ y
value-factor x y hx hy n =
    sym (mul_one x hx) ∙ ap (◌⊗◌ x) (sym (mul_inverse y hy n)) ∙ ap (◌⊗◌ x) (mul_comm y (inverse y)) ∙ sym (mul_assoc x (inverse y) y)

-- the derivative of order (i, w) at (x, y) is 0 for each light polynomial
abbrev pub Vanish : Polynomials → ℕ → ℕ → ℕ → ℕ → Type 0
Vanish s i w x y = (j : ℕ) → j < length s.rows → IsLight s j → hasse (polynomial s j) i w x y ≡ 0

-- so is the one before it in x, if there is one
abbrev pub VanishBefore : Polynomials → ℕ → ℕ → ℕ → ℕ → Type 0
VanishBefore s i w x y = (o : ℕ) → i ≡ suc o → Vanish s o w x y

-- one step
module _ (s : Polynomials) (made : List (List ℕ)) (raised : List ℕ) (c : Condition) (values : List ℕ) (p : ℕ) (basis : IsBasis s)
    (are : AreValues s c values) (pivot : IsPivot s values p) (step : IsStep s (with_rows s made raised) values c.a p) where
  -- the derivative that the condition asks to be 0
  abbrev value : ℕ → ℕ
  value j = hasse (polynomial s j) c.u c.v c.a c.b

  -- the pivot is one of the polynomials
  pub pivot-inside : p < length s.rows
  pivot-inside = let first = pivot.first in first.inside

  -- and has an exponent
  pivot-exponent : p < length s.exponents
  pivot-exponent = let size = basis.size in let l = pivot-inside in omega (arith, size, l)

  -- it is led by its leading monomial
  pivot-led : IsLed s.t (polynomial s p) (get_or s.exponents p 0) p
  pivot-led = basis.each p pivot-inside pivot.light

  -- its value is not 0
  fails : hasse (polynomial s p) c.u c.v c.a c.b ≢ 0
  fails z = let first = pivot.first in first.fails (are p pivot-inside pivot.light ∙ z)

  -- another that is given a multiple of the pivot has a value, so the pivot stands before it
  before : (j : ℕ) → j < length s.rows → j ≢ p → factor values p j ≢ 0 → LeadsBefore s p j
  before j l other nonzero =
      let first = pivot.first in first.first j l (λ z. nonzero (ap (λ x. x ⊗ inverse (get_or values p 0)) z ∙ zero_mul _)) other

  -- another is as heavy as before
  same-exponent : (j : ℕ) → j ≢ p → get_or raised j 0 ≡ get_or s.exponents j 0
  same-exponent j other =
      ap (λ xs. get_or xs j 0) step.exponents ∙ get_or-set_other s.exponents p j (get_or s.exponents p 0 + 1) 0 other

  -- so it was light, if it is
  was_light : (j : ℕ) → j ≢ p → IsLight (with_rows s made raised) j → IsLight s j
  was_light j other light = let same = same-exponent j other in omega (arith, same, light)

  -- the pivot is led by its leading monomial times x
  led-pivot : IsLight (with_rows s made raised) p → IsLed s.t (member s.lanes made p) (get_or raised p 0) p
  led-pivot light =
      subst (λ e. IsLed s.t (member s.lanes made p) e p)
      (sym (ap (λ xs. get_or xs p 0) step.exponents ∙ get_or-set_same s.exponents p (get_or s.exponents p 0 + 1) 0 pivot-exponent))
      (led-raised s.t c.a (get_or s.exponents p 0) p (member s.lanes made p) (polynomial s p) pivot-led (step.pivot light))

  -- another by what it was led by
  led-other : (j : ℕ) → j < length s.rows → j ≢ p → IsLight s j → IsLed s.t (member s.lanes made j) (get_or s.exponents j 0) j
  led-other j l other light =
      elim (cases_eq (factor values p j) 0) [
        | inl z ↦
            led-same s.t (get_or s.exponents j 0) j (member s.lanes made j) (polynomial s j) (polynomial s p) (factor values p j)
            (basis.each j l light) z (step.others j l other light)
        | inr nonzero ↦
            led-added s.t (factor values p j) (get_or s.exponents j 0) j (get_or s.exponents p 0) p
            (member s.lanes made j) (polynomial s j) (polynomial s p)
            (basis.each j l light) pivot-led (before j l other nonzero) (step.others j l other light)
      ]

  -- the leading monomials
  led : (j : ℕ) → j < length s.rows → IsLight (with_rows s made raised) j → IsLed s.t (member s.lanes made j) (get_or raised j 0) j
  led j l light =
      elim (cases_eq j p) [
        | inl same ↦
            subst (λ k. IsLed s.t (member s.lanes made k) (get_or raised k 0) k) (sym same)
            (led-pivot (subst (IsLight (with_rows s made raised)) same light))
        | inr other ↦
            subst (λ e. IsLed s.t (member s.lanes made j) e j) (sym (same-exponent j other))
            (led-other j l other (was_light j other light))
      ]

  -- they are a basis again
  pub step-basis : IsBasis (with_rows s made raised)
  step-basis = record {
    size =
        let size = basis.size in
        let now = step.size in
        let e = ap length step.exponents ∙ length-set s.exponents p (get_or s.exponents p 0 + 1) in
        omega (arith, size, now, e);
    wide = let wide = basis.wide in let now = step.size in omega (arith, wide, now);
    whole = step.whole;
    each = λ j l light. led j (let now = step.size in omega (arith, now, l)) light;
  }

  -- the pivot's derivative stays 0, where the one before it in x is 0 too
  kept-pivot : IsLight (with_rows s made raised) p → (i w x y : ℕ) → hasse (polynomial s p) i w x y ≡ 0
      → ((o : ℕ) → i ≡ suc o → hasse (polynomial s p) o w x y ≡ 0) → hasse (member s.lanes made p) i w x y ≡ 0
  kept-pivot light zero w x y h g =
      let led = pivot-led in
      hasse-raised_first (member s.lanes made p) (polynomial s p) c.a w x y (step.pivot light) led.bytes
      ∙ ap (◌⊗◌ (x ⊕ c.a)) h ∙ mul_zero _
  kept-pivot light (suc o) w x y h g =
      let led = pivot-led in
      hasse-raised_later (member s.lanes made p) (polynomial s p) c.a o w x y (step.pivot light) led.bytes
      ∙ nothing _ _ _ (g o refl) h

  -- a derivative that is 0 stays so, where the one before it in x is 0 too
  pub step-kept : (i w x y : ℕ) → Vanish s i w x y → VanishBefore s i w x y → (j : ℕ) → j < length s.rows
      → IsLight (with_rows s made raised) j → hasse (member s.lanes made j) i w x y ≡ 0
  step-kept i w x y h g j l light =
      elim (cases_eq j p) [
        | inl same ↦
            ap (λ k. hasse (member s.lanes made k) i w x y) same
            ∙ kept-pivot (subst (IsLight (with_rows s made raised)) same light) i w x y (h p pivot-inside pivot.light)
            (λ o e. g o e p pivot-inside pivot.light)
        | inr other ↦
            let before-light = was_light j other light in
            hasse-multiple (member s.lanes made j) (polynomial s j) (polynomial s p) (factor values p j) i w x y
            (step.others j l other before-light)
            ∙ nothing _ _ _ (h j l before-light) (h p pivot-inside pivot.light)
      ]

  -- the pivot's derivative that the condition speaks of is 0, if the one before it in x is
  gained-pivot : IsLight (with_rows s made raised) p → (i : ℕ)
      → ((o : ℕ) → i ≡ suc o → hasse (polynomial s p) o c.v c.a c.b ≡ 0) → hasse (member s.lanes made p) i c.v c.a c.b ≡ 0
  gained-pivot light zero g =
      let led = pivot-led in
      hasse-raised_first (member s.lanes made p) (polynomial s p) c.a c.v c.a c.b (step.pivot light) led.bytes
      ∙ ap (λ x. x ⊗ hasse (polynomial s p) 0 c.v c.a c.b) (add_self c.a) ∙ zero_mul _
  gained-pivot light (suc o) g =
      let led = pivot-led in
      hasse-raised_later (member s.lanes made p) (polynomial s p) c.a o c.v c.a c.b (step.pivot light) led.bytes
      ∙ ap₂ (λ x y. x ⊕ y ⊗ hasse (polynomial s p) (suc o) c.v c.a c.b) (g o refl) (add_self c.a)
      ∙ ap (◌⊕◌ 0) (zero_mul _) ∙ add_zero 0

  -- the derivative of the condition is 0
  pub step-gained : VanishBefore s c.u c.v c.a c.b → (j : ℕ) → j < length s.rows → IsLight (with_rows s made raised) j
      → hasse (member s.lanes made j) c.u c.v c.a c.b ≡ 0
  step-gained g j l light =
      elim (cases_eq j p) [
        | inl same ↦
            ap (λ k. hasse (member s.lanes made k) c.u c.v c.a c.b) same
            ∙ gained-pivot (subst (IsLight (with_rows s made raised)) same light) c.u (λ o e. g o e p pivot-inside pivot.light)
        | inr other ↦
            let before-light = was_light j other light in
            let f = factor values p j in
            let whole = value-factor (value j) (value p) (hasse_lt (polynomial s j) c.u c.v c.a c.b)
            (hasse_lt (polynomial s p) c.u c.v c.a c.b) fails in
            let is =
            whole
            ∙ ap (λ x. x ⊗ value p) (ap₂ (λ x y. x ⊗ inverse y) (sym (are j l before-light)) (sym (are p pivot-inside pivot.light))) in
            hasse-multiple (member s.lanes made j) (polynomial s j) (polynomial s p) f c.u c.v c.a c.b
            (step.others j l other before-light)
            ∙ ap (◌⊕◌ (value j)) (sym is) ∙ add_self (value j)
      ]

-- nothing is done, or a step
module _ {s new : Polynomials} {c : Condition} (basis : IsBasis s) (is : IsImposed s new c) where
  -- which of these it is, with the new polynomials written out
  which : IsStepOrNone s (with_rows s new.rows new.exponents) is.values c.a
  which = subst (λ g. IsStepOrNone s g is.values c.a) is.alike is.step

  -- there are as many polynomials
  pub imposed-size : length new.rows ≡ length s.rows
  imposed-size = elim is.step [ inl none ↦ ap (λ g. length g.rows) none.1 | inr some ↦ let step = some.2 in step.size ]

  -- they are a basis again
  pub imposed-basis : IsBasis new
  imposed-basis =
      elim which [
        | inl none ↦ subst IsBasis (sym (is.alike ∙ none.1)) basis
        | inr some ↦
            subst IsBasis (sym is.alike) (step-basis s new.rows new.exponents c is.values some.0 basis is.are some.1 some.2)
      ]

  -- a derivative that is 0 stays so, where the one before it in x is 0 too
  pub imposed-kept : (i w x y : ℕ) → Vanish s i w x y → VanishBefore s i w x y → Vanish new i w x y
  imposed-kept i w x y h g j inside light =
      let l : j < length s.rows = let size = imposed-size in omega (arith, size, inside) in
      elim which [
        | inl none ↦
            let same = is.alike ∙ none.1 in
            ap (λ g. hasse (polynomial g j) i w x y) same ∙ h j l (subst (λ g. IsLight g j) same light)
        | inr some ↦
            subst (λ g. IsLight g j → hasse (polynomial g j) i w x y ≡ 0) (sym is.alike)
            (step-kept s new.rows new.exponents c is.values some.0 basis is.are some.1 some.2 i w x y h g j l) light
      ]

  -- the derivative of the condition is 0
  pub imposed-gained : VanishBefore s c.u c.v c.a c.b → Vanish new c.u c.v c.a c.b
  imposed-gained g j inside light =
      let l : j < length s.rows = let size = imposed-size in omega (arith, size, inside) in
      elim which [
        | inl none ↦
            let same = is.alike ∙ none.1 in
            let before-light = subst (λ g. IsLight g j) same light in
            ap (λ g. hasse (polynomial g j) c.u c.v c.a c.b) same ∙ sym (is.are j l before-light) ∙ none.0 j l before-light
        | inr some ↦
            subst (λ g. IsLight g j → hasse (polynomial g j) c.u c.v c.a c.b ≡ 0) (sym is.alike)
            (step-gained s new.rows new.exponents c is.values some.0 basis is.are some.1 some.2 g j l) light
      ]
