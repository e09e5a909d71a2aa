-- Two polynomials that agree at more points than their degree are the same.
use Rattle.std.proofs.Common.{◌≡◌, ◌≢◌, ℕ, ◌<◌, List, length, get_or, All, AllPairs, sym, ap, ap₂, ◌∙◌, arith}
use Rattle.std.proofs.lemmas.List.{get_or_default}
use Rattle.gf256.specs.Field.{◌⊕◌, ◌⊗◌}
use Rattle.gf256.specs.Polynomial.{val}
use Rattle.gf256.proofs.Xor.{zero_add, add_self, add-eq-zero}
use Rattle.gf256.proofs.FieldLaws.{mul_one, add_mul}
use Rattle.uni_poly.specs.Coefficients.{IsBytes, IsSame, HasDegreeBelow}
use Rattle.uni_poly.specs.Interpolation.{Interpolates}
use Rattle.uni_poly.proofs.Addition.{add_list, coef-add_list, val-add_list}
use Rattle.uni_poly.proofs.Multiplicity.{too_many_roots}
use Rattle.uni_poly.proofs.Coefficients.{HasDegreeBelow-length, list_from_same, IsBytes-from_all}

-- their sum has too many roots
pub same_polynomial : (p q xs : List ℕ) → IsBytes p → IsBytes q → HasDegreeBelow p (length xs) → HasDegreeBelow q (length xs)
    → All (λ x. x < 256) xs → AllPairs (λ x y. x ≢ y) xs → All (λ x. val p x ≡ val q x) xs → IsSame p q
same_polynomial p q xs bp bq hp hq bytes d h e =
    let low = too_many_roots (add_list p q) xs bytes d
    (λ k e l. val-add_list p q _ ∙ ap (λ x. x ⊕ val q (get_or xs k e)) (h k e l) ∙ add_self _)
    (λ e l. coef-add_list p q e ∙ ap₂ ◌⊕◌ (hp e l) (hq e l) ∙ zero_add 0) in
    add-eq-zero _ _ (sym (ap₂ ◌⊕◌ (mul_one _ (bp e)) (mul_one _ (bq e))) ∙ sym (add_mul _ _ 1) ∙ ap (λ x. x ⊗ 1) (sym (coef-add_list p q e)) ∙ low e)

-- two polynomials with a coefficient for each point that pass through all points are equal
pub same_list : (xs ys p q : List ℕ) → All (λ x. x < 256) xs → AllPairs (λ x y. x ≢ y) xs → Interpolates xs ys p → Interpolates xs ys q → p ≡ q
same_list xs ys p q bytes d hp hq =
    let np = hp.size in
    let nq = hq.size in
    list_from_same p q (np ∙ sym nq)
    (same_polynomial p q xs (IsBytes-from_all p hp.bytes) (IsBytes-from_all q hq.bytes)
    (HasDegreeBelow-length p (length xs) (omega (arith, np))) (HasDegreeBelow-length q (length xs) (omega (arith, nq))) bytes d
    (λ k e l. rw (get_or_default xs k e 0 l) (hp.through k l ∙ sym (hq.through k l))))
