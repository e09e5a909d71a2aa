-- The coefficients of a product, as the code finds them.
use Rattle.std.proofs.Common.{◌≡◌, ℕ, ◌+◌, ◌-◌, ◌≤◌, List, [], ◌∷◌, ◌++◌, map, length, min, sym, ap, ap₂, ◌∙◌, arith, inl, inr, zero-add, add-one, refl}
use Rattle.std.specs.List.{range_with_len}
use Rattle.std.proofs.Math.Nat.{min-eq_left, min-eq_right}
use Rattle.std.proofs.lemmas.Bool.{cases_lt}
use Rattle.std.proofs.lemmas.List.{get_or_past}
use Rattle.std.proofs.lemmas.List.FromFn.{get_or-map-range_with_len, length-map-range_with_len, map-range_with_len_more}
use Rattle.gf256.specs.Field.{◌⊕◌, ◌⊗◌}
use Rattle.gf256.specs.Sums.{sum_to}
use Rattle.gf256.specs.Polynomial.{coef}
use Rattle.gf256.proofs.Xor.{add_zero}
use Rattle.gf256.proofs.FieldLaws.{zero_mul}
use Rattle.gf256.proofs.Sums.{sum_to-longer}
use Rattle.uni_poly.specs.Product.{product_coef}
use Rattle.uni_poly.proofs.Products.{product_coef-past}

-- the first n terms of coefficient e
unfoldable pub product_to : List ℕ → List ℕ → ℕ → ℕ → ℕ
product_to p q e n = sum_to (λ i. coef p i ⊗ coef q (e - i)) n

-- one term more
pub product_to-more : (p q : List ℕ) (e n : ℕ) → product_to p q e (n + 1) ≡ product_to p q e n ⊕ coef p n ⊗ coef q (e - n)
unfolding product_to sum_to
product_to-more p q e n = ap (sum_to (λ i. coef p i ⊗ coef q (e - i))) (add-one n)

-- no term yet
pub product_to-none : (p q : List ℕ) (e : ℕ) → product_to p q e 0 ≡ 0
unfolding product_to sum_to
product_to-none p q e = refl

-- past the last coefficient of p the terms are 0
pub product_to-all : (p q : List ℕ) (e n : ℕ) → n ≡ min (length p) (e + 1) → product_to p q e n ≡ product_coef p q e
unfolding product_to product_coef coef
product_to-all p q e n h =
    let F = λ (i : ℕ). coef p i ⊗ coef q (e - i) in
    elim (cases_lt (length p) (e + 1)) [
      | inl short ↦
          ap (sum_to F) (h ∙ min-eq_left (omega arith))
          ∙ sym (sum_to-longer F (length p) (e + 1) (omega arith) (λ i l. ap (λ x. x ⊗ coef q (e - i)) (get_or_past p i 0 l) ∙ zero_mul _))
      | inr long ↦ ap (sum_to F) (h ∙ min-eq_right long)
    ]

-- coefficient e of p * q + r
unfoldable pub sum_coef : List ℕ → List ℕ → List ℕ → ℕ → ℕ
sum_coef p q r e = product_coef p q e ⊕ coef r e

-- one coefficient more
pub sum_coef-more : (p q r v : List ℕ) (e x : ℕ) → v ≡ map (sum_coef p q r) (range_with_len 0 e) → x ≡ product_coef p q e ⊕ coef r e
    → v ++ x ∷ [] ≡ map (sum_coef p q r) (range_with_len 0 (e + 1))
unfolding sum_coef
sum_coef-more p q r v e x h k = ap₂ (λ l y. l ++ y ∷ []) h k ∙ sym (map-range_with_len_more (sum_coef p q r) 0 e e (zero-add e))

-- a list of coefficients of p * q + r that is long enough is p * q + r
pub coef-multiply_and_add : (p q r v : List ℕ) (n : ℕ) → v ≡ map (sum_coef p q r) (range_with_len 0 n)
    → length p + length q - 1 ≤ n → length r ≤ n → (e : ℕ) → coef v e ≡ product_coef p q e ⊕ coef r e
unfolding coef sum_coef
coef-multiply_and_add p q r v n h a b e =
    let f : ℕ → ℕ = sum_coef p q r in
    ap (λ l. coef l e) h
    ∙ elim (cases_lt e n) [
      | inl within ↦ get_or-map-range_with_len f 0 n e e 0 within (zero-add e)
      | inr past ↦
          get_or_past (map f (range_with_len 0 n)) e 0 (rw length-map-range_with_len past)
          ∙ sym (ap₂ ◌⊕◌ (product_coef-past p q e (omega arith)) (get_or_past r e 0 (omega arith)) ∙ add_zero 0)
    ]
