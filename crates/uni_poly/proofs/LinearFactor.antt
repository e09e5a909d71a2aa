-- The product with x - r: its coefficients, as the code makes them, its values, and its roots.
use Rattle.std.proofs.Common.{◌≡◌, ◌≢◌, ℕ, zero, suc, ◌+◌, ◌-◌, ◌<◌, ◌≤◌, inl, inr, List, [], ◌∷◌, map, length, get_or, drop, ◌++◌, append_assoc, refl, sym, ap, ap₂, ◌∙◌, arith, lit<, add-one, zero-add, ext_get_or}
use Rattle.std.specs.List.{range_with_len}
use Rattle.std.proofs.lemmas.Bool.{cases_lt}
use Rattle.std.proofs.lemmas.List.FromFn.{get_or-map-range_with_len, length-map-range_with_len}
use Rattle.std.proofs.lemmas.List.{get_or_past, drop_more, drop_all}
use Rattle.gf256.specs.Field.{◌⊕◌, ◌⊗◌}
use Rattle.gf256.specs.Sums.{sum_to}
use Rattle.gf256.specs.Polynomial.{coef, val}
use Rattle.gf256.proofs.Xor.{add_zero, zero_add, add_self, add_lt, add-eq-zero}
use Rattle.gf256.proofs.FieldLaws.{ring, mul_lt, mul_one, mul_zero, zero_mul}
use Rattle.gf256.proofs.Powers.{mul-eq-zero}
use Rattle.gf256.proofs.Sums.{sum_to-zero, sum_to-lt}
use Rattle.uni_poly.specs.Coefficients.{IsBytes}
use Rattle.uni_poly.specs.Product.{linear, product_coef, product}
use Rattle.uni_poly.specs.Taylor.{taylor}
use Rattle.uni_poly.proofs.Values.{val_nil, val_cons, val_lt}
use Rattle.uni_poly.proofs.Products.{val-product}

-- the coefficient one place before
unfoldable pub before : List ℕ → ℕ → ℕ
before p zero = 0
before p (suc e) = coef p e

-- coefficient e of p * (x - r)
pub product_coef-linear : (p : List ℕ) (r e : ℕ) → IsBytes p → product_coef p (linear r) e ≡ before p e ⊕ coef p e ⊗ r
unfolding product_coef before sum_to coef
product_coef-linear p r zero h = refl
product_coef-linear p r (suc e) h =
    let q = linear r in
    let F = λ (i : ℕ). get_or p i 0 ⊗ get_or q (suc e - i) 0 in
    let one : suc e - e ≡ 1 = omega arith in
    let none : suc e - suc e ≡ 0 = omega arith in
    ap (sum_to F) (add-one (suc e))
    ∙ ap₂ ◌⊕◌
    (ap₂ ◌⊕◌ (sum_to-zero F e (λ i l. ap (◌⊗◌ (get_or p i 0)) (get_or_past q (suc e - i) 0 (omega arith)) ∙ mul_zero _))
    (ap (λ k. get_or p e 0 ⊗ get_or q k 0) one ∙ mul_one _ (h e)) ∙ zero_add _)
    (ap (λ k. get_or p (suc e) 0 ⊗ get_or q k 0) none)

-- the coefficients of p * (x - r) as a list, where c stands before p
unfoldable pub with_carry : ℕ → List ℕ → ℕ → List ℕ
with_carry c [] r = c ∷ []
with_carry c (d ∷ p) r = (c ⊕ d ⊗ r) ∷ with_carry d p r

-- it is one longer than p
pub length-with_carry : (c : ℕ) (p : List ℕ) (r : ℕ) → length (with_carry c p r) ≡ length p + 1
unfolding with_carry
length-with_carry c [] r = refl
length-with_carry c (d ∷ p) r = let ih = length-with_carry d p r in omega arith

-- its first coefficient
with_carry-first : (c : ℕ) (p : List ℕ) (r : ℕ) → coef (with_carry c p r) 0 ≡ c ⊕ coef p 0 ⊗ r
unfolding with_carry coef
with_carry-first c [] r = sym (ap (◌⊕◌ c) (zero_mul r) ∙ add_zero c)
with_carry-first c (d ∷ p) r = refl

-- and the others
with_carry-later : (c : ℕ) (p : List ℕ) (r e : ℕ) → coef (with_carry c p r) (suc e) ≡ coef p e ⊕ coef p (suc e) ⊗ r
unfolding with_carry coef
with_carry-later c [] r e = sym (ap (◌⊕◌ 0) (zero_mul r) ∙ add_zero 0)
with_carry-later c (d ∷ p) r zero = with_carry-first d p r
with_carry-later c (d ∷ p) r (suc e) = with_carry-later d p r e

-- they are the coefficients of the product
pub coef-with_carry : (p : List ℕ) (r e : ℕ) → coef (with_carry 0 p r) e ≡ before p e ⊕ coef p e ⊗ r
unfolding before
coef-with_carry p r zero = with_carry-first 0 p r
coef-with_carry p r (suc e) = with_carry-later 0 p r e

-- so the list is the product
pub with_carry-product : (p : List ℕ) (r : ℕ) → IsBytes p → with_carry 0 p r ≡ product p (linear r)
unfolding product coef
with_carry-product p r h =
    let n = length p + 2 - 1 in
    let long : length p + 1 ≡ n = omega arith in
    let below : (i : ℕ) → i < length (with_carry 0 p r) → i < n = λ i l. let e = length-with_carry 0 p r in omega arith in
    ext_get_or 0 _ _ (length-with_carry 0 p r ∙ long ∙ sym (length-map-range_with_len (product_coef p (linear r)) 0 n))
    (λ i l. coef-with_carry p r i ∙ sym (product_coef-linear p r i h) ∙ sym (get_or-map-range_with_len (product_coef p (linear r)) 0 n i i 0 (below i l) (zero-add i)))

-- a turn of the loop that makes the list
pub with_carry-more : (made : List ℕ) (c : ℕ) (p : List ℕ) (i r : ℕ) → i < length p
    → (made ++ (c ⊕ get_or p i 0 ⊗ r) ∷ []) ++ with_carry (get_or p i 0) (drop (i + 1) p) r ≡ made ++ with_carry c (drop i p) r
unfolding with_carry
with_carry-more made c p i r l =
    append_assoc made _ _ ∙ ap (λ q. made ++ with_carry c q r) (sym (drop_more p i 0 l))

-- the end of the loop
pub with_carry-end : (c : ℕ) (p : List ℕ) (i r : ℕ) → length p ≤ i → c ∷ [] ≡ with_carry c (drop i p) r
unfolding with_carry
with_carry-end c p i r l = ap (λ q. with_carry c q r) (sym (drop_all i p l))

-- coefficient by coefficient
pub coef-product_linear : (q : List ℕ) (r e : ℕ) → IsBytes q → coef (product q (linear r)) e ≡ before q e ⊕ coef q e ⊗ r
coef-product_linear q r e h = ap (λ l. coef l e) (sym (with_carry-product q r h)) ∙ coef-with_carry q r e

-- the product is one longer
pub length-product_linear : (p : List ℕ) (r : ℕ) → length (product p (linear r)) ≡ length p + 1
unfolding product
length-product_linear p r = length-map-range_with_len (product_coef p (linear r)) 0 (length p + 2 - 1) ∙ omega arith

-- each product has bytes for coefficients
pub IsBytes-product : (p q : List ℕ) → IsBytes (product p q)
unfolding coef product product_coef
IsBytes-product p q e =
    let n = length p + length q - 1 in
    elim (cases_lt e n) [
      | inl l ↦
          rw (get_or-map-range_with_len (product_coef p q) 0 n e e 0 l (zero-add e))
          (sum_to-lt _ (e + 1) (λ i k. mul_lt (get_or p i 0) (get_or q (e - i) 0)))
      | inr l ↦
          rw (get_or_past (map (product_coef p q) (range_with_len 0 n)) e 0 (rw length-map-range_with_len l)) (lit< tt)
    ]

-- ---- the Taylor series and values

-- the series of c + p * (x - r), at the first place
with_carry-taylor_first : (c : ℕ) (p : List ℕ) (r a : ℕ) → taylor (with_carry c p r) a 0 ≡ c ⊗ 1 ⊕ (a ⊕ r) ⊗ taylor p a 0
unfolding with_carry taylor
with_carry-taylor_first c [] r a = simp ring
with_carry-taylor_first c (d ∷ p) r a =
    let ih = with_carry-taylor_first d p r a in
    simp (ih, ring)

-- and at the others
with_carry-taylor_later : (c : ℕ) (p : List ℕ) (r a u : ℕ) → taylor (with_carry c p r) a (suc u) ≡ taylor p a u ⊕ (a ⊕ r) ⊗ taylor p a (suc u)
unfolding with_carry taylor
with_carry-taylor_later c [] r a u = simp ring
with_carry-taylor_later c (d ∷ p) r a zero =
    let ih = with_carry-taylor_later d p r a 0 in
    let first = with_carry-taylor_first d p r a in
    simp (ih, first, ring)
with_carry-taylor_later c (d ∷ p) r a (suc u) =
    let ih = with_carry-taylor_later d p r a (suc u) in
    let before = with_carry-taylor_later d p r a u in
    simp (ih, before, ring)

-- the series of the product at another point
pub taylor-product_linear : (p : List ℕ) (r a u : ℕ) → IsBytes p → taylor (product p (linear r)) a (suc u) ≡ taylor p a u ⊕ (a ⊕ r) ⊗ taylor p a (suc u)
taylor-product_linear p r a u h = ap (λ q. taylor q a (suc u)) (sym (with_carry-product p r h)) ∙ with_carry-taylor_later 0 p r a u

-- the value of the product is that of p times a - r
pub val-product_linear : (p : List ℕ) (r a : ℕ) → val (product p (linear r)) a ≡ (a ⊕ r) ⊗ val p a
val-product_linear p r a = val-product p (linear r) a ∙ simp (val_cons, val_nil, ring)

-- it is 0 at r
pub product_linear-root : (p : List ℕ) (r : ℕ) → val (product p (linear r)) r ≡ 0
product_linear-root p r = val-product_linear p r r ∙ ap (λ x. x ⊗ val p r) (add_self r) ∙ zero_mul _

-- it is 0 where p is
pub product_linear-zero : (p : List ℕ) (r a : ℕ) → val p a ≡ 0 → val (product p (linear r)) a ≡ 0
product_linear-zero p r a e = val-product_linear p r a ∙ ap (◌⊗◌ (a ⊕ r)) e ∙ mul_zero _

-- and nowhere else
pub product_linear-other : (p : List ℕ) (r a : ℕ) → r < 256 → a < 256 → r ≢ a → val (product p (linear r)) a ≡ 0 → val p a ≡ 0
product_linear-other p r a hr ha n e =
    mul-eq-zero (a ⊕ r) (val p a) (add_lt a r ha hr) (val_lt p a) (λ z. n (sym (add-eq-zero a r z))) (sym (val-product_linear p r a) ∙ e)
