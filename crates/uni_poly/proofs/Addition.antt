-- Sums of polynomials, and their values.
use Rattle.std.proofs.Common.{◌≡◌, ℕ, zero, suc, ◌≤◌, List, [], ◌∷◌, length, refl, sym, ap, ap₂, ◌∙◌, arith}
use Rattle.gf256.specs.Field.{◌⊕◌, ◌⊗◌, power}
use Rattle.gf256.specs.Polynomial.{coef, val}
use Rattle.gf256.proofs.Xor.{add_zero, zero_add}
use Rattle.gf256.proofs.FieldLaws.{ring, add_mul, mul_assoc}
use Rattle.gf256.proofs.Sums.{sum_to-same, sum_to-add, mul-sum_to}
use Rattle.uni_poly.specs.Coefficients.{IsScaledSum}
use Rattle.uni_poly.proofs.Values.{val_nil, val_cons, val_to}

-- the sum of two lists, place by place
unfoldable pub add_list : List ℕ → List ℕ → List ℕ
add_list [] q = q
add_list (c ∷ p) [] = c ∷ p
add_list (c ∷ p) (d ∷ q) = (c ⊕ d) ∷ add_list p q

-- its coefficients are the sums
pub coef-add_list : (p q : List ℕ) (e : ℕ) → coef (add_list p q) e ≡ coef p e ⊕ coef q e
unfolding add_list coef
coef-add_list [] q e = sym (zero_add _)
coef-add_list (c ∷ p) [] e = sym (add_zero _)
coef-add_list (c ∷ p) (d ∷ q) zero = refl
coef-add_list (c ∷ p) (d ∷ q) (suc e) = coef-add_list p q e

-- its values are the sums
pub val-add_list : (p q : List ℕ) (a : ℕ) → val (add_list p q) a ≡ val p a ⊕ val q a
unfolding add_list
val-add_list [] q a = sym (ap (λ x. x ⊕ val q a) (val_nil a) ∙ zero_add _)
val-add_list (c ∷ p) [] a = sym (ap (◌⊕◌ (val (c ∷ p) a)) (val_nil a) ∙ add_zero _)
val-add_list (c ∷ p) (d ∷ q) a = let ih = val-add_list p q a in simp (val_cons, ih, ring)

-- the values of a polynomial to which a multiple of another was added
pub val-scaled_sum : (s p q : List ℕ) (f a : ℕ) → IsScaledSum s p q f → length q ≤ length p → val s a ≡ val p a ⊕ f ⊗ val q a
val-scaled_sum s p q f a h l =
    let n = length p in
    let size = h.size in
    sym (val_to s n a (omega (arith, size)))
    ∙ sum_to-same (λ e. coef s e ⊗ power a e) (λ e. coef p e ⊗ power a e ⊕ f ⊗ (coef q e ⊗ power a e)) n
    (λ e k. ap (λ x. x ⊗ power a e) (h.each e) ∙ add_mul _ _ _ ∙ ap (◌⊕◌ (coef p e ⊗ power a e)) (mul_assoc _ _ _))
    ∙ sum_to-add _ _ n
    ∙ ap₂ ◌⊕◌ (val_to p n a (omega arith)) (sym (mul-sum_to f _ n) ∙ ap (◌⊗◌ f) (val_to q n a l))
