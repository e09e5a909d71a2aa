-- Division by x - r.
use Rattle.std.proofs.Common.{◌≡◌, ℕ, zero, suc, ◌+◌, ◌<◌, inl, inr, List, [], ◌∷◌, length, get_or, drop, sym, ap, ap₂, subst, ◌∙◌, arith, add-one}
use Rattle.std.proofs.lemmas.List.{get_or_past}
use Rattle.std.proofs.lemmas.Bool.{cases_lt}
use Rattle.gf256.specs.Field.{◌⊕◌, ◌⊗◌}
use Rattle.gf256.specs.Polynomial.{coef, val}
use Rattle.gf256.proofs.Xor.{sums, add_zero, zero_add}
use Rattle.gf256.proofs.FieldLaws.{zero_mul}
use Rattle.uni_poly.specs.Coefficients.{IsBytes, IsSum}
use Rattle.uni_poly.specs.Division.{IsDivided}
use Rattle.uni_poly.specs.Product.{linear, product}
use Rattle.uni_poly.proofs.Values.{val-drop, val-drop_all, val_lt}
use Rattle.uni_poly.proofs.LinearFactor.{before, coef-product_linear}

-- `val-drop` at each place, also past the end
pub val-drop_any : (p : List ℕ) (i a : ℕ) → IsBytes p → val (drop i p) a ≡ val (drop (suc i) p) a ⊗ a ⊕ coef p i
unfolding coef
val-drop_any p i a h =
    elim (cases_lt i (length p)) [
      | inl l ↦ val-drop p i a l (h i) ∙ ap (λ k. val (drop k p) a ⊗ a ⊕ get_or p i 0) (add-one i)
      | inr l ↦
          val-drop_all p i a l
          ∙ sym (ap₂ ◌⊕◌ (ap (λ x. x ⊗ a) (val-drop_all p (suc i) a (omega arith)) ∙ zero_mul a) (get_or_past p i 0 l) ∙ add_zero 0)
    ]

-- values of what lies above each place are the quotient, and the value of the whole is the rest
pub is_divided : (p q : List ℕ) (r rest : ℕ) → IsBytes p → length q + 1 ≡ length p → rest ≡ val p r
    → ((k : ℕ) → suc k < length p → get_or q k 0 ≡ val (drop (suc k) p) r) → IsDivided p r q rest
unfolding coef before
is_divided p q r rest hp long last each = record { size = long; whole = at }
  where
    every : (e : ℕ) → get_or q e 0 ≡ val (drop (suc e) p) r
    every e =
        elim (cases_lt (suc e) (length p)) [
          | inl l ↦ each e l
          | inr l ↦ get_or_past q e 0 (omega arith) ∙ sym (val-drop_all p (suc e) r l)
        ]

    bytes : IsBytes q
    bytes e = subst (λ x. x < 256) (sym (every e)) (val_lt (drop (suc e) p) r)

    at : IsSum p (product q (linear r)) (rest ∷ [])
    at zero =
        let e = last ∙ val-drop_any p 0 r hp in
        let f = every 0 in
        sym (ap₂ ◌⊕◌ (coef-product_linear q r 0 bytes ∙ zero_add _ ∙ ap (λ x. x ⊗ r) f) e ∙ simp sums)
    at (suc e) =
        let d = every e ∙ val-drop_any p (suc e) r hp in
        let f = every (suc e) in
        sym (add_zero _ ∙ coef-product_linear q r (suc e) bytes ∙ ap₂ ◌⊕◌ d (ap (λ x. x ⊗ r) f) ∙ simp sums)
