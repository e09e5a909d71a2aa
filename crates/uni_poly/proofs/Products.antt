-- The product of polynomials: it is that of their series, so the polynomials are a commutative
-- ring.
use Rattle.std.proofs.Common.{◌≡◌, ℕ, zero, suc, ◌+◌, ◌-◌, ◌≤◌, inl, inr, List, [], ◌∷◌, map, length, refl, sym, ap, ap₂, ◌∙◌, arith, add-one, zero-add}
use Rattle.std.specs.List.{range_with_len}
use Rattle.std.proofs.lemmas.Bool.{cases_lt}
use Rattle.std.proofs.lemmas.List.{get_or_past}
use Rattle.std.proofs.lemmas.List.FromFn.{get_or-map-range_with_len, length-map-range_with_len}
use Rattle.gf256.specs.Field.{◌⊕◌, ◌⊗◌}
use Rattle.gf256.specs.Sums.{sum_to}
use Rattle.gf256.specs.Polynomial.{coef, val}
use Rattle.gf256.proofs.Xor.{add_zero}
use Rattle.gf256.proofs.FieldLaws.{ring, mul_zero, zero_mul}
use Rattle.gf256.proofs.Sums.{sum_to-zero}
use Rattle.uni_poly.specs.Coefficients.{IsSame, IsSum}
use Rattle.uni_poly.specs.Product.{product_coef, product}
use Rattle.uni_poly.proofs.Series.{ext, times, plus, tail, times-sum, times_comm, times_assoc, times-plus_r}
use Rattle.uni_poly.proofs.Values.{val_nil, val_cons}
use Rattle.uni_poly.proofs.Taylor.{val-same}
use Rattle.uni_poly.proofs.Addition.{add_list, coef-add_list, val-add_list}

-- a coefficient past the end of both factors is 0
pub product_coef-past : (p q : List ℕ) (e : ℕ) → length p + length q - 1 ≤ e → product_coef p q e ≡ 0
unfolding product_coef coef
product_coef-past p q e h =
    sum_to-zero _ (e + 1) (λ i l.
    elim (cases_lt i (length p)) [
      | inl within ↦ ap (◌⊗◌ (coef p i)) (get_or_past q (e - i) 0 (omega arith)) ∙ mul_zero _
      | inr past ↦ ap (λ x. x ⊗ coef q (e - i)) (get_or_past p i 0 past) ∙ zero_mul _
    ])

-- each coefficient of the product
pub coef-product : (p q : List ℕ) (e : ℕ) → coef (product p q) e ≡ product_coef p q e
unfolding product coef
coef-product p q e =
    let n = length p + length q - 1 in
    elim (cases_lt e n) [
      | inl within ↦ get_or-map-range_with_len (product_coef p q) 0 n e e 0 within (zero-add e)
      | inr past ↦ get_or_past (map (product_coef p q) (range_with_len 0 n)) e 0 (rw length-map-range_with_len past) ∙ sym (product_coef-past p q e past)
    ]

-- the series of the product is the product of the series
pub coef-product_times : (p q : List ℕ) (e : ℕ) → coef (product p q) e ≡ times (coef p) (coef q) e
unfolding product_coef
coef-product_times p q e =
    coef-product p q e ∙ ap (sum_to (λ i. coef p i ⊗ coef q (e - i))) (add-one e) ∙ sym (times-sum (coef p) (coef q) e)

-- it commutes
pub product_comm : (p q : List ℕ) → IsSame (product p q) (product q p)
product_comm p q e = coef-product_times p q e ∙ times_comm (coef p) (coef q) e ∙ sym (coef-product_times q p e)

-- it associates
pub product_assoc : (p q r : List ℕ) → IsSame (product (product p q) r) (product p (product q r))
product_assoc p q r e =
    let left = ext (coef (product p q)) (times (coef p) (coef q)) (coef-product_times p q) in
    let right = ext (coef (product q r)) (times (coef q) (coef r)) (coef-product_times q r) in
    coef-product_times (product p q) r e ∙ ap (λ f. times f (coef r) e) left ∙ times_assoc (coef p) (coef q) (coef r) e
    ∙ ap (λ f. times (coef p) f e) (sym right) ∙ sym (coef-product_times p (product q r) e)

-- it distributes over a sum
pub product-add : (p q r sum : List ℕ) → IsSum sum q r → IsSum (product p sum) (product p q) (product p r)
unfolding plus
product-add p q r sum h e =
    coef-product_times p sum e ∙ ap (λ f. times (coef p) f e) (ext (coef sum) (plus (coef q) (coef r)) h) ∙ times-plus_r (coef p) (coef q) (coef r) e
    ∙ ap₂ ◌⊕◌ (sym (coef-product_times p q e)) (sym (coef-product_times p r e))

-- ---- values

-- a multiple of a polynomial
unfoldable pub scale_list : ℕ → List ℕ → List ℕ
scale_list c [] = []
scale_list c (d ∷ q) = c ⊗ d ∷ scale_list c q

-- its coefficients are the multiples
pub coef-scale_list : (c : ℕ) (q : List ℕ) (e : ℕ) → coef (scale_list c q) e ≡ c ⊗ coef q e
unfolding scale_list coef
coef-scale_list c [] e = sym (mul_zero c)
coef-scale_list c (d ∷ q) zero = refl
coef-scale_list c (d ∷ q) (suc e) = coef-scale_list c q e

-- its values are the multiples
pub val-scale_list : (c : ℕ) (q : List ℕ) (a : ℕ) → val (scale_list c q) a ≡ c ⊗ val q a
unfolding scale_list
val-scale_list c [] a = val_nil a ∙ sym (ap (◌⊗◌ c) (val_nil a) ∙ mul_zero c)
val-scale_list c (d ∷ q) a = let ih = val-scale_list c q a in simp (val_cons, ih, ring)

-- (c + x * p) times q is c * q plus x times p * q
product-cons : (c : ℕ) (p q : List ℕ) → IsSame (product (c ∷ p) q) (add_list (scale_list c q) (0 ∷ product p q))
unfolding times tail coef
product-cons c p q zero =
    coef-product_times (c ∷ p) q 0 ∙ sym (coef-add_list (scale_list c q) (0 ∷ product p q) 0 ∙ ap (λ x. x ⊕ 0) (coef-scale_list c q 0) ∙ add_zero _)
product-cons c p q (suc e) =
    coef-product_times (c ∷ p) q (suc e)
    ∙ sym (coef-add_list (scale_list c q) (0 ∷ product p q) (suc e) ∙ ap₂ ◌⊕◌ (coef-scale_list c q (suc e)) (coef-product_times p q e))

-- the value of a product is the product of the values
pub val-product : (p q : List ℕ) (a : ℕ) → val (product p q) a ≡ val p a ⊗ val q a
unfolding coef
val-product [] q a =
    val-same (product [] q) [] a (λ e. coef-product_times [] q e ∙ times-sum (coef []) (coef q) e ∙ sum_to-zero _ (suc e) (λ i l. zero_mul (coef q (e - i))))
    ∙ val_nil a ∙ sym (ap (λ x. x ⊗ val q a) (val_nil a) ∙ zero_mul _)
val-product (c ∷ p) q a =
    let ih = val-product p q a in
    val-same (product (c ∷ p) q) (add_list (scale_list c q) (0 ∷ product p q)) a (product-cons c p q)
    ∙ val-add_list (scale_list c q) (0 ∷ product p q) a ∙ simp (val_cons, val-scale_list, ih, ring)
