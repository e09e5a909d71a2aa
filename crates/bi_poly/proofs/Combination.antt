-- The Hasse derivatives and the coefficients of products with x - a.
use Rattle.std.proofs.Common.{◌≡◌, ℕ, zero, suc, ◌<◌, ◌≤◌, List, [], length, refl, sym, ap, ap₂, ◌∙◌, subst, arith, inl, inr}
use Rattle.std.proofs.lemmas.Bool.{cases_lt}
use Rattle.std.proofs.lemmas.List.{get_or_past, get_or-map, length-map}
use Rattle.gf256.specs.Field.{◌⊕◌, ◌⊗◌}
use Rattle.gf256.specs.Sums.{sum_to}
use Rattle.gf256.specs.Polynomial.{coef}
use Rattle.gf256.proofs.Xor.{add_zero, zero_add}
use Rattle.gf256.proofs.FieldLaws.{mul_zero, zero_mul}
use Rattle.uni_poly.specs.Product.{linear, product}
use Rattle.uni_poly.specs.Taylor.{taylor}
use Rattle.uni_poly.proofs.Addition.{add_list, coef-add_list}
use Rattle.uni_poly.proofs.Products.{scale_list, coef-scale_list}
use Rattle.uni_poly.proofs.Taylor.{taylor-same, taylor-zero, taylor_lt}
use Rattle.uni_poly.proofs.LinearFactor.{before, coef-product_linear, taylor-product_linear, val-product_linear}
use Rattle.bi_poly.specs.Rows.{row, cell, AreBytes}
use Rattle.bi_poly.specs.Hasse.{hasse}
use Rattle.bi_poly.specs.Combination.{times_linear_rows}
use Rattle.bi_poly.proofs.Derivatives.{taylor-derivative}
use Rattle.bi_poly.proofs.Expansion.{derivatives-row}
use Rattle.bi_poly.proofs.Hasse.{derivatives, hasse-derivative}
use Rattle.bi_poly.proofs.Zeros.{taylor-add_list, taylor-scale_list}

-- the derivatives in x are the coefficients of a polynomial in y
pub hasse-taylor : (q : List (List ℕ)) (u v a b : ℕ) → hasse q u v a b ≡ taylor (derivatives q a u) b v
hasse-taylor q u v a b = hasse-derivative q u v a b ∙ sym (taylor-derivative (derivatives q a u) b v)

-- they are bytes
pub hasse_lt : (q : List (List ℕ)) (u v a b : ℕ) → hasse q u v a b < 256
hasse_lt q u v a b = subst (λ x. x < 256) (sym (hasse-taylor q u v a b)) (taylor_lt (derivatives q a u) b v)

-- what holds of the derivatives of each row holds of the whole
pub hasse-rows : (s q p : List (List ℕ)) (f u x y v a b : ℕ) → ((j : ℕ) → taylor (row s j) a u ≡ taylor (row q j) a x ⊕ f ⊗ taylor (row p j) a y)
    → hasse s u v a b ≡ hasse q x v a b ⊕ f ⊗ hasse p y v a b
hasse-rows s q p f u x y v a b h =
    let S = derivatives s a u in
    let Q = derivatives q a x in
    let P = derivatives p a y in
    hasse-taylor s u v a b
    ∙ taylor-same S (add_list Q (scale_list f P)) b v
    (λ j. derivatives-row s a u j ∙ h j
    ∙ sym (coef-add_list Q (scale_list f P) j ∙ ap₂ ◌⊕◌ (derivatives-row q a x j) (coef-scale_list f P j ∙ ap (◌⊗◌ f) (derivatives-row p a y j))))
    ∙ taylor-add_list Q (scale_list f P) b v
    ∙ ap (◌⊕◌ (taylor Q b v)) (taylor-scale_list f P b v)
    ∙ ap₂ (λ k l. k ⊕ f ⊗ l) (sym (hasse-taylor q x v a b)) (sym (hasse-taylor p y v a b))

-- a row of the product with x - r
pub row-times_linear : (q : List (List ℕ)) (r j : ℕ) → j < length q → row (times_linear_rows q r) j ≡ product (row q j) (linear r)
row-times_linear q r j l = get_or-map (λ p. product p (linear r)) q j [] [] l

-- past the last row there is none
pub past-times_linear : (q : List (List ℕ)) (r j : ℕ) → length q ≤ j → row (times_linear_rows q r) j ≡ []
past-times_linear q r j l = let size = length-map q (λ p. product p (linear r)) in get_or_past (times_linear_rows q r) j [] (omega arith)

-- nothing times x - r
empty : (a w u v f : ℕ) → taylor [] a w ≡ taylor [] a u ⊕ f ⊗ taylor [] a v
unfolding taylor
empty a w u v f = sym (ap (◌⊕◌ 0) (mul_zero f) ∙ add_zero 0)

-- the derivatives of nothing
pub hasse-none : (u v a b : ℕ) → hasse [] u v a b ≡ 0
unfolding hasse sum_to
hasse-none u v a b = refl

-- the derivatives of order 0 in x of the product with x - r
pub hasse-times_linear_first : (q : List (List ℕ)) (r v a b : ℕ) → hasse (times_linear_rows q r) 0 v a b ≡ (a ⊕ r) ⊗ hasse q 0 v a b
unfolding taylor
hasse-times_linear_first q r v a b =
    hasse-rows (times_linear_rows q r) [] q (a ⊕ r) 0 0 0 v a b
    (λ j.
    elim (cases_lt j (length q)) [
      | inl l ↦
          ap (λ p. taylor p a 0) (row-times_linear q r j l) ∙ taylor-zero (product (row q j) (linear r)) a ∙ val-product_linear (row q j) r a
          ∙ ap (λ x. (a ⊕ r) ⊗ x) (sym (taylor-zero (row q j) a)) ∙ sym (zero_add _)
      | inr l ↦
          ap (λ p. taylor p a 0) (past-times_linear q r j l) ∙ empty a 0 0 0 (a ⊕ r)
          ∙ ap (λ p. taylor [] a 0 ⊕ (a ⊕ r) ⊗ taylor p a 0) (sym (get_or_past q j [] l))
    ])
    ∙ ap (λ x. x ⊕ (a ⊕ r) ⊗ hasse q 0 v a b) (hasse-none 0 v a b) ∙ zero_add _

-- those of a later order
pub hasse-times_linear_later : (q : List (List ℕ)) (r u v a b : ℕ) → AreBytes q
    → hasse (times_linear_rows q r) (suc u) v a b ≡ hasse q u v a b ⊕ (a ⊕ r) ⊗ hasse q (suc u) v a b
unfolding cell
hasse-times_linear_later q r u v a b h =
    hasse-rows (times_linear_rows q r) q q (a ⊕ r) (suc u) u (suc u) v a b
    (λ j.
    elim (cases_lt j (length q)) [
      | inl l ↦ ap (λ p. taylor p a (suc u)) (row-times_linear q r j l) ∙ taylor-product_linear (row q j) r a u (h j)
      | inr l ↦
          ap (λ p. taylor p a (suc u)) (past-times_linear q r j l) ∙ empty a (suc u) u (suc u) (a ⊕ r)
          ∙ ap (λ p. taylor p a u ⊕ (a ⊕ r) ⊗ taylor p a (suc u)) (sym (get_or_past q j [] l))
    ])

-- a coefficient of the product with x - r
cell-times_linear : (q : List (List ℕ)) (r j i : ℕ) → AreBytes q → cell (times_linear_rows q r) j i ≡ before (row q j) i ⊕ cell q j i ⊗ r
unfolding cell coef before
cell-times_linear q r j i h =
    elim (cases_lt j (length q)) [
      | inl l ↦ ap (λ p. coef p i) (row-times_linear q r j l) ∙ coef-product_linear (row q j) r i (h j)
      | inr l ↦
          ap (λ p. coef p i) (past-times_linear q r j l) ∙ nothing i
          ∙ ap (λ p. before p i ⊕ coef p i ⊗ r) (sym (get_or_past q j [] l))
    ]
  where
    nothing : (i : ℕ) → coef [] i ≡ before [] i ⊕ coef [] i ⊗ r
    nothing zero = sym (ap (◌⊕◌ 0) (zero_mul r) ∙ add_zero 0)
    nothing (suc i) = sym (ap (◌⊕◌ 0) (zero_mul r) ∙ add_zero 0)

-- the first of a row
pub cell-times_linear_first : (q : List (List ℕ)) (r j : ℕ) → AreBytes q → cell (times_linear_rows q r) j 0 ≡ cell q j 0 ⊗ r
unfolding before
cell-times_linear_first q r j h = cell-times_linear q r j 0 h ∙ zero_add _

-- the later ones
pub cell-times_linear_later : (q : List (List ℕ)) (r j i : ℕ) → AreBytes q → cell (times_linear_rows q r) j (suc i) ≡ cell q j i ⊕ cell q j (suc i) ⊗ r
unfolding before cell
cell-times_linear_later q r j i h = cell-times_linear q r j (suc i) h
