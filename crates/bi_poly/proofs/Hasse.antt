-- The Hasse derivative in two variables is one in y of those in x.
use Rattle.std.proofs.Common.{◌≡◌, ℕ, ◌+◌, ◌-◌, ◌<◌, ◌≤◌, List, [], map, length, sym, ap, ◌∙◌, arith}
use Rattle.std.proofs.lemmas.List.{get_or-map, length-map}
use Rattle.gf256.specs.Field.{◌⊕◌, ◌⊗◌, power}
use Rattle.gf256.specs.Sums.{sum_to}
use Rattle.gf256.specs.Polynomial.{coef}
use Rattle.gf256.proofs.FieldLaws.{ring}
use Rattle.gf256.proofs.Sums.{sum_to-same, mul-sum_to, sum_to-mul}
use Rattle.bi_poly.specs.Rows.{row, cell}
use Rattle.bi_poly.specs.Hasse.{binomial_parity, derivative, hasse}
use Rattle.bi_poly.proofs.Derivatives.{derivative_to, derivative_to-odd, derivative_to-all}

-- the derivatives of order u of the rows
unfoldable pub derivatives : List (List ℕ) → ℕ → ℕ → List ℕ
derivatives q a u = map (λ r. derivative r a u) q

-- that of row j
pub coef-derivatives : (q : List (List ℕ)) (a u j : ℕ) → j < length q → coef (derivatives q a u) j ≡ derivative (row q j) a u
unfolding derivatives coef
coef-derivatives q a u j l = get_or-map (λ r. derivative r a u) q j [] 0 l

-- a term of the double sum, with its factors in another order
term : (s t c x y : ℕ) → s ⊗ t ⊗ c ⊗ x ⊗ y ≡ t ⊗ ((s ⊗ (c ⊗ x)) ⊗ y)
term s t c x y = simp ring

-- the derivative of order (u, v) is that of order v of the derivatives of order u of the rows
pub hasse-derivative : (q : List (List ℕ)) (u v a b : ℕ) → hasse q u v a b ≡ derivative (derivatives q a u) b v
unfolding hasse derivative cell derivatives
hasse-derivative q u v a b =
    let n = length q in
    sum_to-same _ (λ j. binomial_parity j v ⊗ (coef (derivatives q a u) j ⊗ power b (j - v))) n
    (λ j l.
    let k = length (row q j) in
    let F = λ (i : ℕ). binomial_parity i u ⊗ (coef (row q j) i ⊗ power a (i - u)) in
    let y = power b (j - v) in
    sum_to-same _ (λ i. binomial_parity j v ⊗ (F i ⊗ y)) k (λ i m. term (binomial_parity i u) (binomial_parity j v) (coef (row q j) i) (power a (i - u)) y)
    ∙ sym (mul-sum_to (binomial_parity j v) (λ i. F i ⊗ y) k)
    ∙ ap (◌⊗◌ (binomial_parity j v)) (sym (sum_to-mul y F k))
    ∙ ap (λ x. binomial_parity j v ⊗ (x ⊗ y)) (sym (coef-derivatives q a u j l)))
    ∙ ap (sum_to (λ j. binomial_parity j v ⊗ (coef (derivatives q a u) j ⊗ power b (j - v)))) (sym (length-map q (λ r. derivative r a u)))

-- a turn of the sum over the rows
pub hasse-odd : (q : List (List ℕ)) (u v a b j : ℕ) → j < length q → binomial_parity j v ≡ 1
    → derivative_to (derivatives q a u) b v (j + 1) ≡ derivative_to (derivatives q a u) b v j ⊕ derivative (row q j) a u ⊗ power b (j - v)
hasse-odd q u v a b j l h =
    derivative_to-odd (derivatives q a u) b v j h
    ∙ ap (λ x. derivative_to (derivatives q a u) b v j ⊕ x ⊗ power b (j - v)) (coef-derivatives q a u j l)

-- past the last row the sum is whole
pub hasse-all : (q : List (List ℕ)) (u v a b n : ℕ) → length q ≤ n → derivative_to (derivatives q a u) b v n ≡ hasse q u v a b
unfolding derivatives
hasse-all q u v a b n l =
    let size = length-map q (λ r. derivative r a u) in
    derivative_to-all (derivatives q a u) b v n (omega (arith, size)) ∙ sym (hasse-derivative q u v a b)
