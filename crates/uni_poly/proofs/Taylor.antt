-- The Taylor series of a polynomial.
use Rattle.std.proofs.Common.{◌≡◌, ℕ, zero, suc, ◌<◌, List, [], ◌∷◌, refl, sym, ap, ap₂, ◌∙◌, lit<}
use Rattle.gf256.specs.Field.{◌⊕◌, ◌⊗◌}
use Rattle.gf256.specs.Polynomial.{coef, val}
use Rattle.gf256.proofs.Xor.{zero_add, add_lt}
use Rattle.gf256.proofs.FieldLaws.{mul_lt, mul_zero, zero_mul}
use Rattle.uni_poly.specs.Coefficients.{IsZero, IsSame}
use Rattle.uni_poly.specs.Taylor.{taylor}
use Rattle.uni_poly.proofs.Values.{val_nil, val_cons}

-- its first coefficient is the value
pub taylor-zero : (p : List ℕ) (a : ℕ) → taylor p a 0 ≡ val p a
unfolding taylor
taylor-zero [] a = sym (val_nil a)
taylor-zero (c ∷ p) a = ap (λ x. c ⊗ 1 ⊕ a ⊗ x) (taylor-zero p a) ∙ sym (val_cons c p a)

-- its coefficients are bytes
pub taylor_lt : (p : List ℕ) (a e : ℕ) → taylor p a e < 256
unfolding taylor
taylor_lt [] a e = lit< tt
taylor_lt (c ∷ p) a zero = add_lt _ _ (mul_lt c 1) (mul_lt a _)
taylor_lt (c ∷ p) a (suc e) = add_lt _ _ (taylor_lt p a e) (mul_lt a _)

-- the series of a polynomial that is 0
taylor-none : (p : List ℕ) (a u : ℕ) → IsZero p → taylor p a u ≡ 0
unfolding taylor coef
taylor-none [] a u h = refl
taylor-none (c ∷ p) a zero h = ap₂ ◌⊕◌ (ap (λ x. x ⊗ 1) (h 0) ∙ zero_mul 1) (ap (◌⊗◌ a) (taylor-none p a 0 (λ e. h (suc e))) ∙ mul_zero a) ∙ zero_add 0
taylor-none (c ∷ p) a (suc u) h = ap₂ ◌⊕◌ (taylor-none p a u (λ e. h (suc e))) (ap (◌⊗◌ a) (taylor-none p a (suc u) (λ e. h (suc e))) ∙ mul_zero a) ∙ zero_add 0

-- zeros at the end do not change the series
pub taylor-same : (p q : List ℕ) (a u : ℕ) → IsSame p q → taylor p a u ≡ taylor q a u
unfolding taylor coef
taylor-same [] q a u h = sym (taylor-none q a u (λ e. sym (h e)))
taylor-same (c ∷ p) [] a u h = taylor-none (c ∷ p) a u h
taylor-same (c ∷ p) (d ∷ q) a zero h = ap₂ ◌⊕◌ (ap (λ x. x ⊗ 1) (h 0)) (ap (◌⊗◌ a) (taylor-same p q a 0 (λ e. h (suc e))))
taylor-same (c ∷ p) (d ∷ q) a (suc u) h = ap₂ ◌⊕◌ (taylor-same p q a u (λ e. h (suc e))) (ap (◌⊗◌ a) (taylor-same p q a (suc u) (λ e. h (suc e))))

-- nor do they change the values
pub val-same : (p q : List ℕ) (a : ℕ) → IsSame p q → val p a ≡ val q a
val-same p q a h = sym (taylor-zero p a) ∙ taylor-same p q a 0 h ∙ taylor-zero q a
