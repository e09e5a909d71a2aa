-- A step of Newton's interpolation: a multiple of the vanishing polynomial of the points so far is
-- added.
use Rattle.std.proofs.Common.{◌≡◌, ℕ, ◌<◌, ◌≤◌, List, length, ap, ◌∙◌}
use Rattle.gf256.specs.Field.{◌⊕◌, ◌⊗◌}
use Rattle.gf256.specs.Polynomial.{val}
use Rattle.gf256.proofs.Xor.{sums, add_zero, add_lt}
use Rattle.gf256.proofs.FieldLaws.{mul_one, mul_zero, mul_assoc, mul_comm}
use Rattle.uni_poly.specs.Coefficients.{IsScaledSum}
use Rattle.uni_poly.proofs.Values.{val_lt}
use Rattle.uni_poly.proofs.Addition.{val-scaled_sum}

-- the value at x after a multiple of q was added that makes up for what p misses there
pub through : (s p q : List ℕ) (f x y i : ℕ) → IsScaledSum s p q f → length q ≤ length p → x < 256 → y < 256
    → val q x ⊗ i ≡ 1 → f ≡ (y ⊕ val p x) ⊗ i → val s x ≡ y
through s p q f x y i h l kx ky e g =
    val-scaled_sum s p q f x h l
    ∙ ap (◌⊕◌ (val p x))
    (ap (λ z. z ⊗ val q x) g ∙ mul_assoc _ _ _ ∙ ap (◌⊗◌ (y ⊕ val p x)) (mul_comm i (val q x) ∙ e)
    ∙ mul_one _ (add_lt y _ ky (val_lt p x)))
    ∙ simp sums

-- where q is 0 the value stays
pub kept : (s p q : List ℕ) (f a : ℕ) → IsScaledSum s p q f → length q ≤ length p → val q a ≡ 0 → val s a ≡ val p a
kept s p q f a h l e = val-scaled_sum s p q f a h l ∙ ap (λ z. val p a ⊕ f ⊗ z) e ∙ ap (◌⊕◌ (val p a)) (mul_zero f) ∙ add_zero _
