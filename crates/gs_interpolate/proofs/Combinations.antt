-- The Hasse derivatives of polynomials with multiples of others, and of products with x - a, by their coefficients.
use Rattle.std.proofs.Common.{◌≡◌, ℕ, zero, suc, List, sym, ap, ◌∙◌}
use Rattle.gf256.specs.Field.{◌⊕◌, ◌⊗◌}
use Rattle.gf256.specs.Polynomial.{coef}
use Rattle.uni_poly.specs.Taylor.{taylor}
use Rattle.uni_poly.proofs.Addition.{add_list, coef-add_list}
use Rattle.uni_poly.proofs.Products.{scale_list, coef-scale_list}
use Rattle.uni_poly.proofs.Taylor.{taylor-same}
use Rattle.bi_poly.specs.Rows.{row, cell, AreBytes}
use Rattle.bi_poly.specs.Hasse.{hasse}
use Rattle.bi_poly.specs.Combination.{times_linear_rows}
use Rattle.bi_poly.proofs.Combination.{hasse-taylor, hasse-rows, cell-times_linear_first, cell-times_linear_later, hasse-times_linear_first, hasse-times_linear_later}
use Rattle.bi_poly.proofs.Expansion.{derivatives-row}
use Rattle.bi_poly.proofs.Hasse.{derivatives}
use Rattle.bi_poly.proofs.Zeros.{taylor-add_list, taylor-scale_list}
use Rattle.gs_interpolate.specs.Basis.{IsWithMultiple, IsRaised}

-- the coefficients alone count
pub hasse-same : (s q : List (List ℕ)) (u v a b : ℕ) → ((j i : ℕ) → cell s j i ≡ cell q j i) → hasse s u v a b ≡ hasse q u v a b
unfolding cell
hasse-same s q u v a b h =
    hasse-taylor s u v a b
    ∙ taylor-same (derivatives s a u) (derivatives q a u) b v
    (λ j. derivatives-row s a u j ∙ taylor-same (row s j) (row q j) a u (h j) ∙ sym (derivatives-row q a u j))
    ∙ sym (hasse-taylor q u v a b)

-- with a multiple of another
pub hasse-multiple : (s q p : List (List ℕ)) (f u v a b : ℕ) → IsWithMultiple s q p f → hasse s u v a b ≡ hasse q u v a b ⊕ f ⊗ hasse p u v a b
unfolding cell
hasse-multiple s q p f u v a b h =
    hasse-rows s q p f u u u v a b
    λ j.
    taylor-same (row s j) (add_list (row q j) (scale_list f (row p j))) a u
    (λ e. h j e ∙ sym (coef-add_list (row q j) (scale_list f (row p j)) e ∙ ap (◌⊕◌ (coef (row q j) e)) (coef-scale_list f (row p j) e)))
    ∙ taylor-add_list (row q j) (scale_list f (row p j)) a u
    ∙ ap (◌⊕◌ (taylor (row q j) a u)) (taylor-scale_list f (row p j) a u)

-- a product with x - r has the coefficients of the list of the products of the rows
raised-same : (s q : List (List ℕ)) (r : ℕ) → IsRaised s q r → AreBytes q → (j i : ℕ) → cell s j i ≡ cell (times_linear_rows q r) j i
raised-same s q r up bytes j zero = up.first j ∙ sym (cell-times_linear_first q r j bytes)
raised-same s q r up bytes j (suc i) = up.later j i ∙ sym (cell-times_linear_later q r j i bytes)

-- so the derivatives of order 0 in x
pub hasse-raised_first : (s q : List (List ℕ)) (r v a b : ℕ) → IsRaised s q r → AreBytes q → hasse s 0 v a b ≡ (a ⊕ r) ⊗ hasse q 0 v a b
hasse-raised_first s q r v a b up bytes =
    hasse-same s (times_linear_rows q r) 0 v a b (raised-same s q r up bytes) ∙ hasse-times_linear_first q r v a b

-- and those of a later order
pub hasse-raised_later : (s q : List (List ℕ)) (r u v a b : ℕ) → IsRaised s q r → AreBytes q
    → hasse s (suc u) v a b ≡ hasse q u v a b ⊕ (a ⊕ r) ⊗ hasse q (suc u) v a b
hasse-raised_later s q r u v a b up bytes =
    hasse-same s (times_linear_rows q r) (suc u) v a b (raised-same s q r up bytes) ∙ hasse-times_linear_later q r u v a b bytes
