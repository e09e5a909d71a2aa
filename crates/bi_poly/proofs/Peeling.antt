-- What stands for y in q(x, x * y + gamma) stands for y in q after gamma, one place on (Roth and
-- Ruckenstein 2000).
use Rattle.std.proofs.Common.{◌≡◌, ℕ, zero, suc, ◌+◌, ◌-◌, ◌<◌, ◌≤◌, List, [], ◌∷◌, length, drop, le_refl, refl, sym, ap, ap₂, subst, ◌∙◌, arith, inl, inr}
use Rattle.std.proofs.lemmas.Bool.{cases_lt}
use Rattle.std.proofs.lemmas.List.{length-map, get_or-map}
use Rattle.gf256.specs.Field.{◌⊕◌, ◌⊗◌}
use Rattle.gf256.specs.Polynomial.{coef}
use Rattle.gf256.proofs.Xor.{add_zero, zero_add, add_swap}
use Rattle.gf256.proofs.FieldLaws.{mul_zero, zero_mul, mul_one, mul_add}
use Rattle.uni_poly.specs.Taylor.{taylor}
use Rattle.uni_poly.proofs.Series.{ext, times, tail, plus, scale, times-plus_r}
use Rattle.bi_poly.specs.Rows.{cell, column, AreBytes, IsZero}
use Rattle.bi_poly.specs.Substitution.{at_poly_coef, IsShiftedRoot}
use Rattle.bi_poly.proofs.Composition.{at_series, at_poly_coef-series, times-zero}
use Rattle.bi_poly.proofs.Shift.{taylor-past}
use Rattle.bi_poly.proofs.Zeros.{times-scale_r}
use Rattle.bi_poly.specs.Degree.{IsOrderInX, without_first}
use Rattle.bi_poly.specs.Expansion.{linear_power}
use Rattle.bi_poly.proofs.Degree.{cell-past}
use Rattle.bi_poly.proofs.Strip.{cell-without_first}
use Rattle.bi_poly.proofs.Expansion.{expansion, regroup}
use Rattle.gf256.proofs.Sums.{sum_to-zero}

-- a series times x
unfoldable pub later : (ℕ → ℕ) → ℕ → ℕ
later g zero = 0
later g (suc e) = g e

-- a product with it
times-later : (f g : ℕ → ℕ) (e : ℕ) → times f (later g) e ≡ later (times f g) e
unfolding times later
times-later f g zero = mul_zero _
times-later f g (suc zero) = ap (◌⊕◌ (f 0 ⊗ g 0)) (mul_zero _) ∙ add_zero _
times-later f g (suc (suc e)) = ap (◌⊕◌ (f 0 ⊗ g (suc e))) (times-later (tail f) g (suc e))

-- a sum times x
later-plus : (f g : ℕ → ℕ) (e : ℕ) → later f e ⊕ later g e ≡ later (λ i. f i ⊕ g i) e
unfolding later
later-plus f g zero = zero_add 0
later-plus f g (suc e) = refl

-- nothing times x
later-zero : (e : ℕ) → later (λ i. 0) e ≡ 0
unfolding later
later-zero zero = refl
later-zero (suc e) = refl

-- a sum with a multiple, as series and place by place
plus-scale : (f g : ℕ → ℕ) (c e : ℕ) {x : ℕ} → x ≡ f e ⊕ c ⊗ g e → x ≡ plus f (scale c g) e
unfolding plus scale
plus-scale f g c e h = h

-- a series times x ^ j
unfoldable pub spread : (ℕ → ℕ) → ℕ → ℕ → ℕ
spread g zero e = g e
spread g (suc j) e = later (spread g j) e

-- it begins with j zeros
pub spread-low : (g : ℕ → ℕ) (j e : ℕ) → e < j → spread g j e ≡ 0
unfolding spread later
spread-low g zero e l = absurd (omega arith)
spread-low g (suc j) zero l = refl
spread-low g (suc j) (suc e) l = spread-low g j e (omega arith)

-- and goes on with the series
pub spread-high : (g : ℕ → ℕ) (j e : ℕ) → j ≤ e → spread g j e ≡ g (e - j)
unfolding spread later
spread-high g zero e l = let k : e - 0 ≡ e = omega arith in ap g (sym k)
spread-high g (suc j) zero l = absurd (omega arith)
spread-high g (suc j) (suc e) l = let k : e - j ≡ suc e - suc j = omega arith in spread-high g j e (omega arith) ∙ ap g k

-- that of a sum with a multiple
spread-plus : (g h : ℕ → ℕ) (c j e : ℕ) → spread (λ i. g i ⊕ c ⊗ h i) j e ≡ spread g j e ⊕ c ⊗ spread h j e
unfolding spread later
spread-plus g h c zero e = refl
spread-plus g h c (suc j) zero = sym (ap (◌⊕◌ 0) (mul_zero c) ∙ zero_add 0)
spread-plus g h c (suc j) (suc e) = spread-plus g h c j e

-- row j of q(x, x * y + gamma) as a series
unfoldable pub shifted : List (List ℕ) → ℕ → ℕ → ℕ → ℕ
shifted q c j e = spread (λ i. taylor (column q i) c j) j e

-- past the rows of q it is 0
shifted-past : (q : List (List ℕ)) (c j e : ℕ) → length q ≤ j → shifted q c j e ≡ 0
unfolding shifted
shifted-past q c j e l =
    elim (cases_lt e j) [
      | inl low ↦ spread-low (λ i. taylor (column q i) c j) j e low
      | inr high ↦
          let size = length-map q (λ r. coef r (e - j)) in
          spread-high (λ i. taylor (column q i) c j) j e high ∙ taylor-past (column q (e - j)) c j (omega arith)
    ]

-- the first row, with one row more before the others
shifted-first : (r : List ℕ) (q : List (List ℕ)) (c e : ℕ) → coef r e < 256 → shifted (r ∷ q) c 0 e ≡ coef r e ⊕ c ⊗ shifted q c 0 e
unfolding shifted spread taylor
shifted-first r q c e h = ap (λ x. x ⊕ c ⊗ taylor (column q e) c 0) (mul_one _ h)

-- the later rows
shifted-later : (r : List ℕ) (q : List (List ℕ)) (c j e : ℕ) → shifted (r ∷ q) c (suc j) e ≡ later (shifted q c j) e ⊕ c ⊗ shifted q c (suc j) e
unfolding shifted spread taylor
shifted-later r q c j e = spread-plus (λ i. taylor (column q i) c j) (λ i. taylor (column q i) c (suc j)) c (suc j) e

-- the sum of n rows, given as series, times the powers of f, by Horner's rule
unfoldable pub at_rows : (ℕ → ℕ → ℕ) → (ℕ → ℕ) → ℕ → ℕ → ℕ
at_rows s f zero e = 0
at_rows s f (suc n) e = s 0 e ⊕ times f (at_rows (λ j. s (suc j)) f n) e

-- rows that agree
at_rows-same : (s t : ℕ → ℕ → ℕ) (f : ℕ → ℕ) (n e : ℕ) → ((j i : ℕ) → s j i ≡ t j i) → at_rows s f n e ≡ at_rows t f n e
unfolding at_rows
at_rows-same s t f zero e h = refl
at_rows-same s t f (suc n) e h =
    ap₂ ◌⊕◌ (h 0 e) (ap (λ g. times f g e) (ext (at_rows (λ j. s (suc j)) f n) (at_rows (λ j. t (suc j)) f n)
    (λ i. at_rows-same (λ j. s (suc j)) (λ j. t (suc j)) f n i (λ j k. h (suc j) k))))

-- the rows of a list
at_rows-series : (s : List (List ℕ)) (f : ℕ → ℕ) (e : ℕ) → at_series s f e ≡ at_rows (cell s) f (length s) e
unfolding at_series at_rows cell
at_rows-series [] f e = refl
at_rows-series (r ∷ s) f e = ap (λ g. coef r e ⊕ times f g e) (ext (at_series s f) (at_rows (cell s) f (length s)) (at_rows-series s f))

-- a sum with a multiple
at_rows-plus : (s t : ℕ → ℕ → ℕ) (f : ℕ → ℕ) (c n e : ℕ) → at_rows (λ j i. s j i ⊕ c ⊗ t j i) f n e ≡ at_rows s f n e ⊕ c ⊗ at_rows t f n e
unfolding at_rows plus scale
at_rows-plus s t f c zero e = sym (ap (◌⊕◌ 0) (mul_zero c) ∙ zero_add 0)
at_rows-plus s t f c (suc n) e =
    let S = at_rows (λ j. s (suc j)) f n in
    let T = at_rows (λ j. t (suc j)) f n in
    ap (λ g. s 0 e ⊕ c ⊗ t 0 e ⊕ times f g e)
    (ext (at_rows (λ j i. s (suc j) i ⊕ c ⊗ t (suc j) i) f n) (plus S (scale c T)) (at_rows-plus (λ j. s (suc j)) (λ j. t (suc j)) f c n))
    ∙ ap (◌⊕◌ (s 0 e ⊕ c ⊗ t 0 e)) (times-plus_r f S (scale c T) e ∙ ap (◌⊕◌ (times f S e)) (times-scale_r c f T e))
    ∙ add_swap (s 0 e) (c ⊗ t 0 e) (times f S e) (c ⊗ times f T e)
    ∙ ap (◌⊕◌ (s 0 e ⊕ times f S e)) (sym (mul_add c (t 0 e) (times f T e)))

-- each row times x
at_rows-later : (s : ℕ → ℕ → ℕ) (f : ℕ → ℕ) (n e : ℕ) → at_rows (λ j. later (s j)) f n e ≡ later (at_rows s f n) e
unfolding at_rows
at_rows-later s f zero e = sym (later-zero e)
at_rows-later s f (suc n) e =
    let S = at_rows (λ j. s (suc j)) f n in
    ap (λ g. later (s 0) e ⊕ times f g e) (ext (at_rows (λ j. later (s (suc j))) f n) (later S) (at_rows-later (λ j. s (suc j)) f n))
    ∙ ap (◌⊕◌ (later (s 0) e)) (times-later f S e) ∙ later-plus (s 0) (times f S) e

-- a row of zeros more
at_rows-longer : (s : ℕ → ℕ → ℕ) (f : ℕ → ℕ) (n e : ℕ) → ((i : ℕ) → s n i ≡ 0) → at_rows s f (suc n) e ≡ at_rows s f n e
unfolding at_rows
at_rows-longer s f zero e h = ap₂ ◌⊕◌ (h e) (times-zero f e) ∙ zero_add 0
at_rows-longer s f (suc n) e h =
    ap (λ g. s 0 e ⊕ times f g e)
    (ext (at_rows (λ j. s (suc j)) f (suc n)) (at_rows (λ j. s (suc j)) f n) (λ i. at_rows-longer (λ j. s (suc j)) f n i h))

-- the product with gamma + x * f
times-ahead : (c : ℕ) (f g : ℕ → ℕ) (phi : List ℕ) (e : ℕ) → f ≡ coef phi → times (coef (c ∷ phi)) g e ≡ c ⊗ g e ⊕ times f (later g) e
unfolding times tail coef later
times-ahead c f g phi zero h = sym (ap (◌⊕◌ (c ⊗ g 0)) (mul_zero _) ∙ add_zero _)
times-ahead c f g phi (suc e) h = ap (λ k. c ⊗ g (suc e) ⊕ times k g e) (sym h) ∙ ap (◌⊕◌ (c ⊗ g (suc e))) (sym (times-later f g (suc e)))

-- the rows of q(x, x * y + gamma) at phi
shifted-series : (q : List (List ℕ)) (c : ℕ) (phi : List ℕ) (e : ℕ) → AreBytes q → at_rows (shifted q c) (coef phi) (length q) e ≡ at_series q (coef (c ∷ phi)) e
unfolding at_rows at_series cell
shifted-series [] c phi e h = refl
shifted-series (r ∷ q) c phi e h =
    let f = coef phi in
    let n = length q in
    let S = shifted q c in
    let X = at_series q (coef (c ∷ phi)) in
    let ih : at_rows S f n ≡ X = ext (at_rows S f n) X (λ i. shifted-series q c phi i (λ j i. h (suc j) i)) in
    let A = at_rows (λ j. later (S j)) f n in
    let B = at_rows (λ j. S (suc j)) f n in
    ap₂ ◌⊕◌ (shifted-first r q c e (h 0 e))
    (ap (λ g. times f g e)
    (ext (at_rows (λ j. shifted (r ∷ q) c (suc j)) f n) (plus A (scale c B))
    (λ i. at_rows-same (λ j. shifted (r ∷ q) c (suc j)) (λ j k. later (S j) k ⊕ c ⊗ S (suc j) k) f n i (λ j k. shifted-later r q c j k)
    ∙ plus-scale A B c i (at_rows-plus (λ j. later (S j)) (λ j. S (suc j)) f c n i)))
    ∙ times-plus_r f A (scale c B) e
    ∙ ap₂ ◌⊕◌
    (ap (λ g. times f g e) (ext A (later X) (λ i. at_rows-later S f n i ∙ ap (λ g. later g i) ih)))
    (times-scale_r c f B e))
    ∙ regroup (coef r e) (c ⊗ S 0 e) (times f (later X) e) (c ⊗ times f B e)
    ∙ ap (λ x. coef r e ⊕ (x ⊕ times f (later X) e))
    (sym (mul_add c (S 0 e) (times f B e)) ∙ ap (◌⊗◌ c) (at_rows-longer S f n e (λ i. shifted-past q c n i (omega arith)) ∙ ap (λ g. g e) ih))
    ∙ ap (◌⊕◌ (coef r e)) (sym (times-ahead c f X phi e refl))

-- the rows of a polynomial that is q(x, x * y + gamma)
cell-shifted : (q s : List (List ℕ)) (c : ℕ) → IsShiftedRoot q c s → (j e : ℕ) → cell s j e ≡ shifted q c j e
unfolding shifted
cell-shifted q s c h j e =
    let g = λ (i : ℕ). taylor (column q i) c j in
    elim (cases_lt e j) [
      | inl low ↦ h.low j e low ∙ sym (spread-low g j e low)
      | inr high ↦
          let k : e ≡ e - j + j = omega arith in
          ap (cell s j) k ∙ h.each j (e - j) ∙ sym (spread-high g j e high)
    ]

-- q(x, x * y + gamma) at phi is q at gamma + x * phi
pub peeled : (q s : List (List ℕ)) (c : ℕ) (phi : List ℕ) → AreBytes q → IsShiftedRoot q c s → (e : ℕ) → at_poly_coef s phi e ≡ at_poly_coef q (c ∷ phi) e
peeled q s c phi b h e =
    at_poly_coef-series s phi e ∙ at_rows-series s (coef phi) e
    ∙ ap (λ n. at_rows (cell s) (coef phi) n e) h.rows
    ∙ at_rows-same (cell s) (shifted q c) (coef phi) (length q) e (cell-shifted q s c h)
    ∙ shifted-series q c phi e b
    ∙ sym (at_poly_coef-series q (c ∷ phi) e)

-- each row times x ^ d
at_rows-spread : (s : ℕ → ℕ → ℕ) (f : ℕ → ℕ) (n d e : ℕ) → at_rows (λ j. spread (s j) d) f n e ≡ spread (at_rows s f n) d e
unfolding spread
at_rows-spread s f n zero e = refl
at_rows-spread s f n (suc d) e =
    at_rows-later (λ j. spread (s j) d) f n e
    ∙ ap (λ g. later g e) (ext (at_rows (λ j. spread (s j) d) f n) (spread (at_rows s f n) d) (at_rows-spread s f n d))

-- where x ^ d divides q, the rows of q are those of the quotient times x ^ d
cell-divided : (q : List (List ℕ)) (d : ℕ) → ((j i : ℕ) → i < d → cell q j i ≡ 0) → (j e : ℕ) → cell q j e ≡ spread (cell (without_first d q) j) d e
cell-divided q d h j e =
    elim (cases_lt e d) [
      | inl low ↦ h j e low ∙ sym (spread-low (cell (without_first d q) j) d e low)
      | inr high ↦
          let k : e ≡ d + (e - d) = omega arith in
          ap (cell q j) k ∙ sym (spread-high (cell (without_first d q) j) d e high ∙ cell-without_first d q j (e - d))
    ]

-- where x ^ d divides q, q(x, phi(x)) is x ^ d times that of the quotient: so what stands for y
-- where one is 0 does where the other is
pub stripped-at_poly : (q : List (List ℕ)) (d : ℕ) (phi : List ℕ) → IsOrderInX q d → (e : ℕ) → at_poly_coef q phi e ≡ spread (at_poly_coef (without_first d q) phi) d e
stripped-at_poly q d phi h e =
    let s = without_first d q in
    at_poly_coef-series q phi e ∙ at_rows-series q (coef phi) e
    ∙ at_rows-same (cell q) (λ j. spread (cell s j) d) (coef phi) (length q) e (cell-divided q d h.lowest)
    ∙ at_rows-spread (cell s) (coef phi) (length q) d e
    ∙ ap (λ g. spread g d e)
    (ext (at_rows (cell s) (coef phi) (length q)) (at_poly_coef s phi)
    (λ i. ap (λ n. at_rows (cell s) (coef phi) n i) (sym (length-map q (drop d))) ∙ sym (at_poly_coef-series s phi i ∙ at_rows-series s (coef phi) i)))

-- a polynomial whose Taylor series is 0 is 0
zero_from_taylor : (p : List ℕ) (a j : ℕ) → ((u : ℕ) → taylor p a u ≡ 0) → coef p j < 256 → coef p j ≡ 0
zero_from_taylor p a j h l =
    sym (mul_one (coef p j) l) ∙ sym (expansion p a (length p) j (le_refl (length p)))
    ∙ sum_to-zero _ (length p) (λ v k. ap (λ x. x ⊗ linear_power a v j) (h v) ∙ zero_mul _)

-- q(x, x * y + gamma) is 0 only where q is
pub zero_from_shifted : (q s : List (List ℕ)) (c : ℕ) → AreBytes q → IsShiftedRoot q c s → IsZero s → IsZero q
unfolding cell coef
zero_from_shifted q s c b h z j i =
    elim (cases_lt j (length q)) [
      | inl within ↦
          let at : coef (column q i) j ≡ cell q j i = get_or-map (λ r. coef r i) q j [] 0 within in
          sym at ∙ zero_from_taylor (column q i) c j (λ u. sym (h.each u i) ∙ z u (i + u)) (subst (λ x. x < 256) (sym at) (b j i))
      | inr past ↦ cell-past q j i past
    ]
