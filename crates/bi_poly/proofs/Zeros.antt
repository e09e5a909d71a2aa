-- Where phi(a) is b, a zero of q at (a, b) is a root at a of q(x, phi(x)), of the same multiplicity
-- (Guruswami and Sudan 1999).
use Rattle.std.proofs.Common.{◌≡◌, ℕ, zero, suc, ◌+◌, ◌<◌, ◌≤◌, List, [], ◌∷◌, length, refl, sym, ap, ap₂, ◌∙◌, arith}
use Rattle.gf256.specs.Field.{◌⊕◌, ◌⊗◌}
use Rattle.gf256.proofs.Xor.{sums, add_comm, add_zero, zero_add, add_self}
use Rattle.gf256.proofs.FieldLaws.{ring, mul_zero, zero_mul, one_mul, mul_one}
use Rattle.gf256.specs.Polynomial.{coef, val}
use Rattle.uni_poly.specs.Taylor.{taylor, VanishesAt}
use Rattle.uni_poly.proofs.Series as series
use Rattle.uni_poly.proofs.Series.{times, tail, scale, times-plus_l, times-plus_r, times-scale_l, times_assoc, times_comm, ext}
use Rattle.uni_poly.proofs.Addition.{add_list, coef-add_list}
use Rattle.uni_poly.proofs.Products.{scale_list, coef-scale_list}
use Rattle.uni_poly.proofs.Taylor.{taylor_lt, taylor-zero, taylor-same}
use Rattle.bi_poly.specs.Hasse.{hasse, HasZero}
use Rattle.bi_poly.specs.Substitution.{IsAtPoly}
use Rattle.bi_poly.proofs.Derivatives.{taylor-derivative}
use Rattle.bi_poly.proofs.Hasse.{derivatives, hasse-derivative}
use Rattle.bi_poly.proofs.Composition.{at_series, at_poly_coef-series}

-- the Taylor series of a sum
pub taylor-add_list : (p q : List ℕ) (a e : ℕ) → taylor (add_list p q) a e ≡ taylor p a e ⊕ taylor q a e
unfolding taylor add_list
taylor-add_list [] q a e = sym (zero_add _)
taylor-add_list (c ∷ p) [] a e = sym (add_zero _)
taylor-add_list (c ∷ p) (d ∷ q) a zero = let ih = taylor-add_list p q a 0 in simp (ih, ring)
taylor-add_list (c ∷ p) (d ∷ q) a (suc e) =
    let ih = taylor-add_list p q a e in
    let ih' = taylor-add_list p q a (suc e) in
    simp (ih, ih', ring)

-- that of a multiple
pub taylor-scale_list : (c : ℕ) (q : List ℕ) (a e : ℕ) → taylor (scale_list c q) a e ≡ c ⊗ taylor q a e
unfolding taylor scale_list
taylor-scale_list c [] a e = sym (mul_zero c)
taylor-scale_list c (d ∷ q) a zero = let ih = taylor-scale_list c q a 0 in simp (ih, ring)
taylor-scale_list c (d ∷ q) a (suc e) =
    let ih = taylor-scale_list c q a e in
    let ih' = taylor-scale_list c q a (suc e) in
    simp (ih, ih', ring)

-- the product, by the first coefficient of p and the others
unfoldable pub multiplied : List ℕ → List ℕ → List ℕ
multiplied [] q = []
multiplied (c ∷ p) q = add_list (scale_list c q) (0 ∷ multiplied p q)

-- the series a + x, and the series of one coefficient
unfoldable pub line : ℕ → ℕ → ℕ
line a zero = a
line a (suc zero) = 1
line a (suc (suc e)) = 0

-- a product with a series of zeros
times-zero_l : (f g : ℕ → ℕ) (e : ℕ) → ((i : ℕ) → f i ≡ 0) → times f g e ≡ 0
unfolding times tail
times-zero_l f g zero h = ap (λ x. x ⊗ g 0) (h 0) ∙ zero_mul _
times-zero_l f g (suc e) h = ap₂ ◌⊕◌ (ap (λ x. x ⊗ g (suc e)) (h 0) ∙ zero_mul _) (times-zero_l (tail f) g e (λ i. h (suc i))) ∙ zero_add 0

-- (x + a) times a series
times-line_zero : (a : ℕ) (g : ℕ → ℕ) → times (line a) g 0 ≡ a ⊗ g 0
unfolding times line
times-line_zero a g = refl

-- the later coefficients of that product
times-line_suc : (a : ℕ) (g : ℕ → ℕ) (e : ℕ) → times (line a) g (suc e) ≡ 1 ⊗ g e ⊕ a ⊗ g (suc e)
unfolding times line tail
times-line_suc a g zero = add_comm _ _
times-line_suc a g (suc e) =
    ap (λ x. a ⊗ g (suc (suc e)) ⊕ (1 ⊗ g (suc e) ⊕ x)) (times-zero_l (λ i. line a (suc (suc i))) g e (λ i. refl)) ∙ simp sums

-- p(x + a) by its first coefficient and the others, place by place
taylor-cons_at : (c : ℕ) (p : List ℕ) (a e : ℕ) → taylor (c ∷ p) a e ≡ series.plus (taylor (c ∷ []) a) (times (line a) (taylor p a)) e
unfolding taylor series.plus
taylor-cons_at c p a zero = rw times-line_zero (simp ring)
taylor-cons_at c p a (suc e) = rw times-line_suc (simp (taylor_lt, ring))

-- the same as an equation of series
taylor-cons : (c : ℕ) (p : List ℕ) (a : ℕ) → taylor (c ∷ p) a ≡ series.plus (taylor (c ∷ []) a) (times (line a) (taylor p a))
taylor-cons c p a = ext _ _ (taylor-cons_at c p a)

-- the product with a constant
times-constant : (c a : ℕ) (g : ℕ → ℕ) (e : ℕ) → times (taylor (c ∷ []) a) g e ≡ c ⊗ (1 ⊗ g e)
unfolding times taylor tail
times-constant c a g zero = simp ring
times-constant c a g (suc e) =
    ap (λ x. (c ⊗ 1 ⊕ a ⊗ 0) ⊗ g (suc e) ⊕ x) (times-zero_l (λ i. 0 ⊕ a ⊗ 0) g e (λ i. simp ring)) ∙ simp ring

-- the series of no coefficients
taylor-nil : (a : ℕ) (e : ℕ) → taylor [] a e ≡ 0
unfolding taylor
taylor-nil a e = refl

-- x times p
taylor-later : (p : List ℕ) (a e : ℕ) → taylor (0 ∷ p) a e ≡ times (line a) (taylor p a) e
unfolding taylor
taylor-later p a zero = rw times-line_zero (simp ring)
taylor-later p a (suc e) = rw times-line_suc (simp (taylor_lt, ring))

-- the Taylor series of a product
pub taylor-multiplied : (p q : List ℕ) (a e : ℕ) → taylor (multiplied p q) a e ≡ times (taylor p a) (taylor q a) e
unfolding multiplied
taylor-multiplied [] q a e = taylor-nil a e ∙ sym (times-zero_l (taylor [] a) (taylor q a) e (taylor-nil a))
taylor-multiplied (c ∷ p) q a e =
    taylor-add_list (scale_list c q) (0 ∷ multiplied p q) a e
    ∙ ap₂ ◌⊕◌
    (taylor-scale_list c q a e ∙ ap (◌⊗◌ c) (sym (one_mul _ (taylor_lt q a e))) ∙ sym (times-constant c a (taylor q a) e))
    (taylor-later (multiplied p q) a e ∙ ap (λ s. times (line a) s e) (ext _ _ (taylor-multiplied p q a)) ∙ sym (times_assoc (line a) (taylor p a) (taylor q a) e))
    ∙ sym (times-plus_l (taylor (c ∷ []) a) (times (line a) (taylor p a)) (taylor q a) e)
    ∙ ap (λ s. times s (taylor q a) e) (sym (taylor-cons c p a))

-- Q(x, phi)
unfoldable pub at_list : List (List ℕ) → List ℕ → List ℕ
at_list [] phi = []
at_list (r ∷ q) phi = add_list r (multiplied phi (at_list q phi))

-- Q(x + a, y + b): the series in x before y ^ v
unfoldable pub taylor2 : List (List ℕ) → ℕ → ℕ → ℕ → ℕ → ℕ
taylor2 [] a b v u = 0
taylor2 (r ∷ q) a b zero u = taylor r a u ⊕ b ⊗ taylor2 q a b 0 u
taylor2 (r ∷ q) a b (suc v) u = taylor2 q a b v u ⊕ b ⊗ taylor2 q a b (suc v) u

-- a zero of multiplicity m
abbrev pub HasTaylorZero : List (List ℕ) → ℕ → ℕ → ℕ → Type 0
HasTaylorZero q a b m = (u v : ℕ) → u + v < m → taylor2 q a b v u ≡ 0

-- the sum of H v * psi ^ (v - w) over the n values of v from w on
unfoldable pub upward : (ℕ → ℕ → ℕ) → (ℕ → ℕ) → ℕ → ℕ → ℕ → ℕ
upward H psi zero w e = 0
upward H psi (suc n) w e = H w e ⊕ times psi (upward H psi n (suc w)) e

-- a product with a series that begins with zeros
times-low : (f g : ℕ → ℕ) (e : ℕ) → ((i : ℕ) → i ≤ e → g i ≡ 0) → times f g e ≡ 0
unfolding times
times-low f g zero h = ap (◌⊗◌ (f 0)) (h 0 (omega arith)) ∙ mul_zero _
times-low f g (suc e) h = ap₂ ◌⊕◌ (ap (◌⊗◌ (f 0)) (h (suc e) (omega arith)) ∙ mul_zero _) (times-low (tail f) g e (λ i l. h i (omega arith))) ∙ zero_add 0

-- a product with a multiple
pub times-scale_r : (c : ℕ) (f g : ℕ → ℕ) (e : ℕ) → times f (scale c g) e ≡ c ⊗ times f g e
times-scale_r c f g e = times_comm f (scale c g) e ∙ times-scale_l c g f e ∙ ap (◌⊗◌ c) (times_comm g f e)

-- what psi has no constant keeps the order
upward-low : (H : ℕ → ℕ → ℕ) (psi : ℕ → ℕ) (m n w e : ℕ) → psi 0 ≡ 0 → ((u v : ℕ) → u + v < m → H v u ≡ 0) → e + w < m → upward H psi n w e ≡ 0
unfolding upward times
upward-low H psi m zero w e z h l = refl
upward-low H psi m (suc n) w zero z h l = ap₂ ◌⊕◌ (h 0 w l) (ap (λ x. x ⊗ upward H psi n (suc w) 0) z ∙ zero_mul _) ∙ zero_add 0
upward-low H psi m (suc n) w (suc e) z h l =
    ap₂ ◌⊕◌ (h (suc e) w l)
    (ap₂ ◌⊕◌ (ap (λ x. x ⊗ upward H psi n (suc w) (suc e)) z ∙ zero_mul _)
    (times-low (tail psi) (upward H psi n (suc w)) e (λ i k. upward-low H psi m n (suc w) i z h (omega arith))) ∙ zero_add 0)
    ∙ zero_add 0

-- a term of zeros more
upward-longer : (H : ℕ → ℕ → ℕ) (psi : ℕ → ℕ) (n w e : ℕ) → ((v u : ℕ) → w + n ≤ v → H v u ≡ 0) → upward H psi (suc n) w e ≡ upward H psi n w e
unfolding upward
upward-longer H psi zero w e h = ap₂ ◌⊕◌ (h w e (omega arith)) (times-low psi (λ i. 0) e (λ i l. refl)) ∙ zero_add 0
upward-longer H psi (suc n) w e h =
    ap (λ s. H w e ⊕ times psi s e) (ext (upward H psi (suc n) (suc w)) (upward H psi n (suc w)) (λ i. upward-longer H psi n (suc w) i (λ v u l. h v u (omega arith))))

-- past the last row there is nothing
taylor2-past : (q : List (List ℕ)) (a b v u : ℕ) → length q ≤ v → taylor2 q a b v u ≡ 0
unfolding taylor2
taylor2-past [] a b v u l = refl
taylor2-past (r ∷ q) a b zero u l = absurd (omega arith)
taylor2-past (r ∷ q) a b (suc v) u l =
    ap₂ ◌⊕◌ (taylor2-past q a b v u (omega arith)) (ap (◌⊗◌ b) (taylor2-past q a b (suc v) u (omega arith)) ∙ mul_zero b) ∙ zero_add 0

-- one row more below
upward-cons : (r : List ℕ) (q : List (List ℕ)) (a b : ℕ) (psi : ℕ → ℕ) (n w e : ℕ)
    → upward (taylor2 (r ∷ q) a b) psi n (suc w) e ≡ upward (taylor2 q a b) psi n w e ⊕ b ⊗ upward (taylor2 q a b) psi n (suc w) e
unfolding upward taylor2 series.plus scale
upward-cons r q a b psi zero w e = sym (ap (◌⊕◌ 0) (mul_zero b) ∙ zero_add 0)
upward-cons r q a b psi (suc n) w e =
    let H = taylor2 q a b in
    let ih = ext (upward (taylor2 (r ∷ q) a b) psi n (suc (suc w))) (series.plus (upward H psi n (suc w)) (scale b (upward H psi n (suc (suc w))))) (upward-cons r q a b psi n (suc w)) in
    ap (◌⊕◌ (H w e ⊕ b ⊗ H (suc w) e))
    (ap (λ s. times psi s e) ih ∙ times-plus_r psi (upward H psi n (suc w)) (scale b (upward H psi n (suc (suc w)))) e
    ∙ ap (◌⊕◌ (times psi (upward H psi n (suc w)) e)) (times-scale_r b psi (upward H psi n (suc (suc w))) e))
    ∙ simp ring

-- phi(x + a) - b
unfoldable pub rest_of : (ℕ → ℕ) → ℕ → ℕ → ℕ
rest_of f b zero = f 0 ⊕ b
rest_of f b (suc e) = f (suc e)

-- a product with phi(x + a), taken apart
times-rest_of : (f g : ℕ → ℕ) (b e : ℕ) → times f g e ≡ b ⊗ g e ⊕ times (rest_of f b) g e
unfolding times rest_of tail
times-rest_of f g b zero = simp ring
times-rest_of f g b (suc e) = simp ring

-- the taylor of Q(x, phi)
pub taylor-at_list : (q : List (List ℕ)) (phi : List ℕ) (a b e : ℕ) → taylor (at_list q phi) a e ≡ upward (taylor2 q a b) (rest_of (taylor phi a) b) (length q) 0 e
unfolding at_list upward taylor2 series.plus scale
taylor-at_list [] phi a b e = taylor-nil a e
taylor-at_list (r ∷ q) phi a b e =
    let H = taylor2 q a b in
    let n = length q in
    let psi = rest_of (taylor phi a) b in
    let U = upward H psi n 0 in
    let V = upward H psi n 1 in
    let ih = ext (taylor (at_list q phi) a) U (taylor-at_list q phi a b) in
    let next = ext (upward (taylor2 (r ∷ q) a b) psi n 1) (series.plus U (scale b V)) (upward-cons r q a b psi n 0) in
    let long = upward-longer H psi n 0 e (λ v u l. taylor2-past q a b v u (omega arith)) in
    taylor-add_list r (multiplied phi (at_list q phi)) a e
    ∙ ap (◌⊕◌ (taylor r a e))
    (taylor-multiplied phi (at_list q phi) a e ∙ ap (λ s. times (taylor phi a) s e) ih ∙ times-rest_of (taylor phi a) U b e
    ∙ ap (λ x. b ⊗ x ⊕ times psi U e) (sym long))
    ∙ (simp ring)
    ∙ sym (ap (◌⊕◌ (taylor r a e ⊕ b ⊗ H 0 e))
    (ap (λ s. times psi s e) next ∙ times-plus_r psi U (scale b V) e ∙ ap (◌⊕◌ (times psi U e)) (times-scale_r b psi V e)))

-- where phi passes through (a, b), a zero of Q there is a root of Q(x, phi) at a
pub VanishesAt-at_list : (q : List (List ℕ)) (phi : List ℕ) (a b m : ℕ) → val phi a ≡ b → HasTaylorZero q a b m → VanishesAt (at_list q phi) a m
unfolding rest_of
VanishesAt-at_list q phi a b m v h e l =
    let z = ap (λ x. x ⊕ b) (taylor-zero phi a ∙ v) ∙ add_self b in
    taylor-at_list q phi a b e
    ∙ upward-low (taylor2 q a b) (rest_of (taylor phi a) b) m (length q) 0 e z h (omega arith)

-- the coefficients of a product
coef-multiplied : (p q : List ℕ) (e : ℕ) → coef (multiplied p q) e ≡ times (coef p) (coef q) e
unfolding multiplied coef times tail
coef-multiplied [] q e = sym (times-zero_l (coef []) (coef q) e (λ i. refl))
coef-multiplied (c ∷ p) q zero =
    coef-add_list (scale_list c q) (0 ∷ multiplied p q) 0 ∙ ap (λ x. x ⊕ 0) (coef-scale_list c q 0) ∙ add_zero _
coef-multiplied (c ∷ p) q (suc e) =
    coef-add_list (scale_list c q) (0 ∷ multiplied p q) (suc e) ∙ ap₂ ◌⊕◌ (coef-scale_list c q (suc e)) (coef-multiplied p q e)

-- the list of q(x, phi(x)) has its coefficients
pub coef-at_list : (q : List (List ℕ)) (phi : List ℕ) (e : ℕ) → coef (at_list q phi) e ≡ at_series q (coef phi) e
unfolding at_list at_series coef
coef-at_list [] phi e = refl
coef-at_list (r ∷ q) phi e =
    coef-add_list r (multiplied phi (at_list q phi)) e
    ∙ ap (◌⊕◌ (coef r e))
    (coef-multiplied phi (at_list q phi) e ∙ ap (λ s. times (coef phi) s e) (ext (coef (at_list q phi)) (at_series q (coef phi)) (coef-at_list q phi)))

-- the Taylor coefficients in two variables are those in y of those in x
taylor2-taylor : (q : List (List ℕ)) (a b v u : ℕ) → taylor2 q a b v u ≡ taylor (derivatives q a u) b v
unfolding taylor2 taylor derivatives
taylor2-taylor [] a b v u = refl
taylor2-taylor (r ∷ q) a b zero u =
    ap₂ ◌⊕◌ (sym (mul_one _ (taylor_lt r a u)) ∙ ap (λ x. x ⊗ 1) (taylor-derivative r a u)) (ap (◌⊗◌ b) (taylor2-taylor q a b 0 u))
taylor2-taylor (r ∷ q) a b (suc v) u = ap₂ ◌⊕◌ (taylor2-taylor q a b v u) (ap (◌⊗◌ b) (taylor2-taylor q a b (suc v) u))

-- so they are the Hasse derivatives
taylor2-hasse : (q : List (List ℕ)) (a b v u : ℕ) → taylor2 q a b v u ≡ hasse q u v a b
taylor2-hasse q a b v u = taylor2-taylor q a b v u ∙ taylor-derivative (derivatives q a u) b v ∙ sym (hasse-derivative q u v a b)

-- a zero of q is one of q(x, phi(x))
pub VanishesAt-from_zero : (q : List (List ℕ)) (phi p : List ℕ) (a m : ℕ) → HasZero q a (val phi a) m → IsAtPoly q phi p → VanishesAt p a m
VanishesAt-from_zero q phi p a m z h u l =
    taylor-same p (at_list q phi) a u (λ e. h e ∙ at_poly_coef-series q phi e ∙ sym (coef-at_list q phi e))
    ∙ VanishesAt-at_list q phi a (val phi a) m refl (λ u v k. taylor2-hasse q a (val phi a) v u ∙ z u v k) u l
