-- The polynomial q(x, phi(x)), by Horner's rule.
use Rattle.std.proofs.Common.{◌≡◌, ℕ, zero, suc, ◌+◌, ◌<◌, ◌≤◌, List, [], ◌∷◌, length, drop, refl, sym, ap, ap₂, ◌∙◌}
use Rattle.std.proofs.lemmas.List.{drop_more, drop_all}
use Rattle.gf256.specs.Field.{◌⊕◌, ◌⊗◌}
use Rattle.gf256.specs.Sums.{sum_to}
use Rattle.gf256.specs.Polynomial.{coef, val}
use Rattle.gf256.proofs.Xor.{zero_add, add_zero, add_comm}
use Rattle.gf256.proofs.FieldLaws.{mul_zero, mul_one}
use Rattle.gf256.proofs.Sums.{sum_to-first, sum_to-same}
use Rattle.uni_poly.specs.Product.{product_coef}
use Rattle.uni_poly.proofs.Series.{ext, times, tail, plus, times-plus_r, times_comm}
use Rattle.uni_poly.proofs.Products.{coef-product, coef-product_times}
use Rattle.uni_poly.proofs.Values.{val_nil, val_cons}
use Rattle.bi_poly.specs.Rows.{row, cell, column, AreBytes}
use Rattle.bi_poly.specs.Substitution.{times_power, at_poly_coef}

-- the coefficients of q(x, f), where f is a series
unfoldable pub at_series : List (List ℕ) → (ℕ → ℕ) → ℕ → ℕ
at_series [] f e = 0
at_series (r ∷ q) f e = coef r e ⊕ times f (at_series q f) e

-- a product with 0
pub times-zero : (f : ℕ → ℕ) (e : ℕ) → times f (λ i. 0) e ≡ 0
unfolding times
times-zero f zero = mul_zero _
times-zero f (suc e) = ap₂ ◌⊕◌ (mul_zero _) (times-zero (tail f) e) ∙ zero_add 0

-- a product with a sum
times-sum_to : (f : ℕ → ℕ) (g : ℕ → ℕ → ℕ) (n e : ℕ) → times f (λ i. sum_to (λ j. g j i) n) e ≡ sum_to (λ j. times f (g j) e) n
unfolding sum_to plus
times-sum_to f g zero e = times-zero f e
times-sum_to f g (suc n) e =
    times-plus_r f (λ i. sum_to (λ j. g j i) n) (g n) e ∙ ap (λ x. x ⊕ times f (g n) e) (times-sum_to f g n e)

-- the sum over the rows is Horner's
pub at_poly_coef-series : (q : List (List ℕ)) (phi : List ℕ) (e : ℕ) → at_poly_coef q phi e ≡ at_series q (coef phi) e
unfolding at_poly_coef at_series times_power sum_to
at_poly_coef-series [] phi e = refl
at_poly_coef-series (r ∷ q) phi e =
    let n = length q in
    let F = λ (j : ℕ). coef (times_power (row (r ∷ q) j) phi j) e in
    let G = λ (j i : ℕ). coef (times_power (row q j) phi j) i in
    sum_to-first F n
    ∙ ap (◌⊕◌ (coef r e))
    (sum_to-same (λ j. F (suc j)) (λ j. times (coef phi) (G j) e) n
    (λ j l. coef-product_times (times_power (row q j) phi j) phi e ∙ times_comm (G j) (coef phi) e)
    ∙ sym (times-sum_to (coef phi) G n e)
    ∙ ap (λ s. times (coef phi) s e) (ext (λ i. sum_to (λ j. G j i) n) (at_series q (coef phi)) (at_poly_coef-series q phi)))

-- a turn of Horner's rule, from the last row down
pub at_series-drop : (q : List (List ℕ)) (phi p : List ℕ) (j e : ℕ) → j < length q
    → ((i : ℕ) → coef p i ≡ at_series (drop (j + 1) q) (coef phi) i)
    → product_coef phi p e ⊕ coef (row q j) e ≡ at_series (drop j q) (coef phi) e
unfolding at_series
at_series-drop q phi p j e l h =
    add_comm _ _
    ∙ ap (◌⊕◌ (coef (row q j) e))
    (sym (coef-product phi p e) ∙ coef-product_times phi p e
    ∙ ap (λ s. times (coef phi) s e) (ext (coef p) (at_series (drop (j + 1) q) (coef phi)) h))
    ∙ ap (λ s. at_series s (coef phi) e) (sym (drop_more q j [] l))

-- no row yet
pub at_series-end : (q : List (List ℕ)) (f : ℕ → ℕ) (j e : ℕ) → length q ≤ j → at_series (drop j q) f e ≡ 0
unfolding at_series
at_series-end q f j e l = ap (λ s. at_series s f e) (drop_all j q l)

-- a product with a constant
times-constant : (g : ℕ) (f : ℕ → ℕ) (e : ℕ) → times (coef (g ∷ [])) f e ≡ g ⊗ f e
unfolding times tail coef
times-constant g f zero = refl
times-constant g f (suc e) = ap (◌⊕◌ (g ⊗ f (suc e))) (times_comm (tail (coef (g ∷ []))) f e ∙ times-zero f e) ∙ add_zero _

-- where a constant stands for y, each column has its value there
at_series-constant : (q : List (List ℕ)) (g e : ℕ) → AreBytes q → at_series q (coef (g ∷ [])) e ≡ val (column q e) g
unfolding at_series cell
at_series-constant [] g e h = sym (val_nil g)
at_series-constant (r ∷ q) g e h =
    ap₂ ◌⊕◌ (sym (mul_one (coef r e) (h 0 e)))
    (times-constant g (at_series q (coef (g ∷ []))) e ∙ ap (◌⊗◌ g) (at_series-constant q g e (λ j i. h (suc j) i)))
    ∙ sym (val_cons (coef r e) (column q e) g)

-- so has the polynomial
pub at_poly_coef-constant : (q : List (List ℕ)) (g e : ℕ) → AreBytes q → at_poly_coef q (g ∷ []) e ≡ val (column q e) g
at_poly_coef-constant q g e h = at_poly_coef-series q (g ∷ []) e ∙ at_series-constant q g e h
