-- The quotient of a polynomial by x - r, as long as the polynomial itself: its last coefficient is
-- 0.
use Rattle.std.proofs.Common.{◌≡◌, ◌≢◌, ℕ, zero, suc, ◌<◌, List, [], ◌∷◌, refl, sym, ap, ap₂, ◌∙◌, arith, lit<}
use Rattle.gf256.specs.Field.{◌⊕◌, ◌⊗◌}
use Rattle.gf256.specs.Polynomial.{coef, val}
use Rattle.gf256.proofs.Xor.{sums, add_comm, add_zero, zero_add, add_lt, add_self, add-eq-zero}
use Rattle.gf256.proofs.FieldLaws.{ring, mul_one, mul_zero, zero_mul, mul_comm}
use Rattle.gf256.proofs.Powers.{mul-eq-zero}
use Rattle.uni_poly.specs.Coefficients.{IsBytes, IsZero, HasDegreeBelow}
use Rattle.uni_poly.specs.Taylor.{taylor, VanishesAt}
use Rattle.uni_poly.proofs.Values.{val_nil, val_cons, val_lt, val_zero}
use Rattle.uni_poly.proofs.Taylor.{taylor-zero, taylor_lt}

-- each coefficient is the value of what lies above its place
unfoldable pub quotient : List ℕ → ℕ → List ℕ
quotient [] r = []
quotient (c ∷ p) r = val p r ∷ quotient p r

-- p is (x - r) times the quotient, plus its value at r
pub val-quotient : (p : List ℕ) (r a : ℕ) → val p a ≡ (a ⊕ r) ⊗ val (quotient p r) a ⊕ val p r
unfolding quotient
val-quotient [] r a = simp (val_nil, ring)
val-quotient (c ∷ p) r a =
    let ih = val-quotient p r a in
    simp (val_cons, ih, val_lt, ring)

-- p by the coefficients of the quotient: the first
pub coef-quotient_first : (p : List ℕ) (r : ℕ) → IsBytes p → coef p 0 ≡ coef (quotient p r) 0 ⊗ r ⊕ val p r
unfolding quotient coef
coef-quotient_first [] r h = sym (ap₂ ◌⊕◌ (zero_mul r) (val_nil r) ∙ zero_add 0)
coef-quotient_first (c ∷ p) r h =
    let one : c ⊗ 1 ≡ c = mul_one c (h 0) in
    sym (ap₂ ◌⊕◌ (mul_comm (val p r) r) (val_cons c p r ∙ ap (λ x. x ⊕ r ⊗ val p r) one) ∙ simp sums)

-- and the others
pub coef-quotient_later : (p : List ℕ) (r e : ℕ) → IsBytes p → coef p (suc e) ≡ coef (quotient p r) e ⊕ coef (quotient p r) (suc e) ⊗ r
unfolding quotient coef
coef-quotient_later [] r e h = sym (ap (◌⊕◌ 0) (zero_mul r) ∙ zero_add 0)
coef-quotient_later (c ∷ p) r zero h = coef-quotient_first p r (λ e. h (suc e)) ∙ add_comm _ _
coef-quotient_later (c ∷ p) r (suc e) h = coef-quotient_later p r e (λ e. h (suc e))

-- its coefficients are bytes
pub IsBytes-quotient : (p : List ℕ) (r : ℕ) → IsBytes (quotient p r)
unfolding quotient coef
IsBytes-quotient [] r e = lit< tt
IsBytes-quotient (c ∷ p) r zero = val_lt p r
IsBytes-quotient (c ∷ p) r (suc e) = IsBytes-quotient p r e

-- each coefficient is 0 in its low eight bits
abbrev pub IsLowZero : List ℕ → Type 0
IsLowZero p = (e : ℕ) → coef p e ⊗ 1 ≡ 0

-- a polynomial that is 0 is so
pub IsLowZero-from_zero : (p : List ℕ) → IsZero p → IsLowZero p
IsLowZero-from_zero p h e = ap (λ x. x ⊗ 1) (h e) ∙ zero_mul 1

-- a polynomial of bytes that is so is 0
pub IsZero-from_low : (p : List ℕ) → IsBytes p → IsLowZero p → IsZero p
IsZero-from_low p b h e = sym (mul_one _ (b e)) ∙ h e

-- the degree falls by one
pub HasDegreeBelow-quotient : (p : List ℕ) (r n : ℕ) → HasDegreeBelow p (suc n) → HasDegreeBelow (quotient p r) n
unfolding quotient coef
HasDegreeBelow-quotient [] r n h e l = refl
HasDegreeBelow-quotient (c ∷ p) r zero h zero l = val_zero p r (IsLowZero-from_zero p (λ e. h (suc e) (omega arith)))
HasDegreeBelow-quotient (c ∷ p) r zero h (suc e) l = HasDegreeBelow-quotient p r zero (λ e k. h (suc e) (omega arith)) e (omega arith)
HasDegreeBelow-quotient (c ∷ p) r (suc n) h zero l = absurd (omega arith)
HasDegreeBelow-quotient (c ∷ p) r (suc n) h (suc e) l = HasDegreeBelow-quotient p r n (λ e k. h (suc e) (omega arith)) e (omega arith)

-- where the quotient and the rest are 0, p is
pub IsLowZero-from_quotient : (p : List ℕ) (r : ℕ) → IsLowZero (quotient p r) → val p r ≡ 0 → IsLowZero p
unfolding quotient coef
IsLowZero-from_quotient [] r h v e = zero_mul 1
IsLowZero-from_quotient (c ∷ p) r h v zero =
    let w = sym (mul_one _ (val_lt p r)) ∙ h zero in
    sym (add_zero (c ⊗ 1)) ∙ ap (◌⊕◌ (c ⊗ 1)) (sym (ap (◌⊗◌ r) w ∙ mul_zero r)) ∙ sym (val_cons c p r) ∙ v
IsLowZero-from_quotient (c ∷ p) r h v (suc e) =
    IsLowZero-from_quotient p r (λ e. h (suc e)) (sym (mul_one _ (val_lt p r)) ∙ h zero) e

-- ---- what a division does to the Taylor series

-- the series of p at b, by that of the quotient of p by x - a
pub taylor-quotient : (p : List ℕ) (a b e : ℕ) → taylor p b (suc e) ≡ taylor (quotient p a) b e ⊕ (b ⊕ a) ⊗ taylor (quotient p a) b (suc e)
unfolding taylor quotient
taylor-quotient [] a b e = simp ring
taylor-quotient (c ∷ p) a b zero =
    let ih = taylor-quotient p a b zero in
    let at = taylor-zero p b ∙ val-quotient p a b in
    let q = taylor-zero (quotient p a) b in
    simp (ih, at, q, val_lt, ring)
taylor-quotient (c ∷ p) a b (suc e) =
    let ih = taylor-quotient p a b e in
    let ih' = taylor-quotient p a b (suc e) in
    simp (ih, ih', ring)

-- a factor x - a taken away lowers the multiplicity of a by one
pub VanishesAt-same : (p : List ℕ) (a m : ℕ) → VanishesAt p a (suc m) → VanishesAt (quotient p a) a m
VanishesAt-same p a m h u l =
    sym (add_zero _) ∙ ap (◌⊕◌ (taylor (quotient p a) a u)) (sym (zero_mul (taylor (quotient p a) a (suc u))) ∙ ap (λ x. x ⊗ taylor (quotient p a) a (suc u)) (sym (add_self a)))
    ∙ sym (taylor-quotient p a a u) ∙ h (suc u) (omega arith)

-- and does not lower that of another root
pub VanishesAt-other : (p : List ℕ) (a b m : ℕ) → a < 256 → b < 256 → a ≢ b → val p a ≡ 0 → VanishesAt p b m → VanishesAt (quotient p a) b m
VanishesAt-other p a b m ha hb n v h zero l =
    mul-eq-zero (b ⊕ a) (taylor (quotient p a) b 0) (add_lt b a hb ha) (taylor_lt _ b 0)
    (λ e. n (sym (add-eq-zero b a e)))
    (ap (◌⊗◌ (b ⊕ a)) (taylor-zero (quotient p a) b) ∙ sym (add_zero _) ∙ ap (◌⊕◌ ((b ⊕ a) ⊗ val (quotient p a) b)) (sym v) ∙ sym (val-quotient p a b) ∙ sym (taylor-zero p b) ∙ h 0 l)
VanishesAt-other p a b m ha hb n v h (suc u) l =
    mul-eq-zero (b ⊕ a) (taylor (quotient p a) b (suc u)) (add_lt b a hb ha) (taylor_lt _ b _)
    (λ e. n (sym (add-eq-zero b a e)))
    (sym (zero_add _) ∙ ap (λ x. x ⊕ (b ⊕ a) ⊗ taylor (quotient p a) b (suc u)) (sym (VanishesAt-other p a b m ha hb n v h u (omega arith)))
    ∙ sym (taylor-quotient p a b u) ∙ h (suc u) l)
