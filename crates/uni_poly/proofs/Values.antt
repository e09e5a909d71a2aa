-- The value of a polynomial.
use Rattle.std.proofs.Common.{◌≡◌, ℕ, ◌+◌, ◌<◌, ◌≤◌, List, [], ◌∷◌, length, get_or, drop, fold, reverse, suc, refl, sym, ap, ap₂, ◌∙◌, lit<, All, arith}
use Rattle.std.proofs.lemmas.List.{drop_more, drop_all, get_or_past, reverse-append}
use Rattle.std.proofs.lemmas.List.Sums.{fold_push}
use Rattle.gf256.specs.Field.{◌⊕◌, ◌⊗◌, power}
use Rattle.gf256.specs.Sums.{sum_to}
use Rattle.gf256.proofs.Xor.{add_comm, add_zero}
use Rattle.gf256.proofs.FieldLaws.{mul_lt, mul_left_comm, one_mul_mul, mul_one, mul_zero, zero_mul, mul_assoc, mul_comm}
use Rattle.uni_poly.specs.Coefficients.{IsBytes}
use Rattle.gf256.proofs.Sums.{sum_to-same, sum_to-zero, sum_to-lt, sum_to-first, sum_to-longer, mul-sum_to}
use Rattle.gf256.specs.Polynomial.{coef, val}

-- the value of no coefficients is 0
pub val_nil : (a : ℕ) → val [] a ≡ 0
unfolding val sum_to
val_nil a = refl

-- the first coefficient apart from the others
pub val_cons : (c : ℕ) (p : List ℕ) (a : ℕ) → val (c ∷ p) a ≡ c ⊗ 1 ⊕ a ⊗ val p a
unfolding val coef power
val_cons c p a =
    sum_to-first (λ e. get_or (c ∷ p) e 0 ⊗ power a e) (length p)
    ∙ ap (◌⊕◌ (c ⊗ 1)) (sum_to-same (λ e. get_or p e 0 ⊗ (a ⊗ power a e)) (λ e. a ⊗ (get_or p e 0 ⊗ power a e)) (length p) (λ e l. mul_left_comm _ a _)
    ∙ sym (mul-sum_to a (λ e. get_or p e 0 ⊗ power a e) (length p)))

-- each value is a byte
pub val_lt : (p : List ℕ) (a : ℕ) → val p a < 256
unfolding val
val_lt p a = sum_to-lt _ (length p) (λ i l. mul_lt (coef p i) (power a i))

-- where the low eight bits of each coefficient are 0, each value is
pub val_zero : (p : List ℕ) (a : ℕ) → ((e : ℕ) → coef p e ⊗ 1 ≡ 0) → val p a ≡ 0
unfolding val
val_zero p a h = sum_to-zero _ (length p) (λ e l. sym (one_mul_mul (coef p e) (power a e)) ∙ sym (mul_assoc 1 (coef p e) (power a e)) ∙ ap (λ x. x ⊗ power a e) (mul_comm 1 (coef p e)) ∙ ap (λ x. x ⊗ power a e) (h e) ∙ zero_mul _)

-- a turn of Horner's rule, from the last coefficient down
pub val-drop : (p : List ℕ) (i a : ℕ) → i < length p → get_or p i 0 < 256 → val (drop i p) a ≡ val (drop (i + 1) p) a ⊗ a ⊕ get_or p i 0
val-drop p i a l h =
    ap (λ q. val q a) (drop_more p i 0 l) ∙ val_cons (get_or p i 0) (drop (i + 1) p) a
    ∙ ap₂ ◌⊕◌ (mul_one (get_or p i 0) h) (mul_comm a _) ∙ add_comm _ _

-- past the last coefficient nothing is left
pub val-drop_all : (p : List ℕ) (n a : ℕ) → length p ≤ n → val (drop n p) a ≡ 0
val-drop_all p n a h = ap (λ q. val q a) (drop_all n p h) ∙ val_nil a

-- more terms do not change the value
pub val_to : (p : List ℕ) (n a : ℕ) → length p ≤ n → sum_to (λ e. coef p e ⊗ power a e) n ≡ val p a
unfolding val coef
val_to p n a h = sum_to-longer _ (length p) n h (λ i l. ap (λ x. x ⊗ power a i) (get_or_past p i 0 l) ∙ zero_mul _)

-- the value of the polynomial 1
pub val_one : (a : ℕ) → val (1 ∷ []) a ≡ 1
val_one a = val_cons 1 [] a ∙ ap₂ ◌⊕◌ (mul_one 1 (lit< tt)) (ap (◌⊗◌ a) (val_nil a) ∙ mul_zero a) ∙ add_zero 1

-- the value at 0 is the constant
pub val_at_zero : (p : List ℕ) → All (λ c. c < 256) p → val p 0 ≡ coef p 0
unfolding val coef sum_to
val_at_zero [] bytes = refl
val_at_zero (c ∷ p) bytes = val_cons c p 0 ∙ ap₂ ◌⊕◌ (mul_one c (bytes 0 0 (omega arith))) (zero_mul (val p 0)) ∙ add_zero c

-- Horner's rule: from the last coefficient down, multiply by a and add the next
pub horner : (p : List ℕ) (a : ℕ) → IsBytes p → fold (λ value c. value ⊗ a ⊕ c) 0 (reverse p) ≡ val p a
unfolding coef
horner [] a h = sym (val_nil a)
horner (c ∷ p) a h =
    let step : ℕ → ℕ → ℕ = λ value c. value ⊗ a ⊕ c in
    ap (fold step 0) (reverse-append (c ∷ []) p) ∙ fold_push step 0 (reverse p) c
    ∙ ap₂ ◌⊕◌ (ap (λ v. v ⊗ a) (horner p a (λ e. h (suc e))) ∙ mul_comm (val p a) a) (sym (mul_one c (h 0)))
    ∙ add_comm (a ⊗ val p a) (c ⊗ 1) ∙ sym (val_cons c p a)
