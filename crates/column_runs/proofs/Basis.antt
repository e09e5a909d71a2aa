-- Lagrange's basis: polynomials that are 0 at all the xs but one.
use Rattle.std.proofs.Common.{◌≡◌, ◌≢◌, ℕ, ◌+◌, ◌-◌, ◌<◌, inl, inr, List, length, get_or, take, drop, All, AllPairs, sym, ap, ◌∙◌, arith, length-drop, get_or-drop}
use Rattle.std.proofs.lemmas.Bool.{cases_lt}
use Rattle.std.proofs.lemmas.List.{get_or_default, length-take-le}
use Rattle.std.proofs.lemmas.List.Elements.{All-drop}
use Rattle.std.proofs.lemmas.List.FromFn.{length-map-range_with_len}
use Rattle.gf256.specs.Field.{◌⊗◌, inverse}
use Rattle.gf256.specs.Polynomial.{val}
use Rattle.gf256.proofs.FieldLaws.{mul_zero, zero_mul}
use Rattle.gf256.proofs.Powers.{mul_inverse, mul-eq-zero}
use Rattle.uni_poly.specs.Product.{product, product_coef, vanishing}
use Rattle.uni_poly.proofs.Values.{val_lt}
use Rattle.uni_poly.proofs.Products.{val-product}
use Rattle.uni_poly.proofs.VanishingPolynomial.{length-vanishing, vanishing-member, vanishing_take-before, vanishing_take-next, Contains-from_root}
use Rattle.column_runs.specs.Lagrange.{basis_polynomial, factor}

-- it has a coefficient for each of the xs
pub length-basis : (xs : List ℕ) (j : ℕ) → j < length xs → length (basis_polynomial xs j) ≡ length xs
unfolding basis_polynomial product
length-basis xs j l =
    let p = vanishing (take j xs) in
    let q = vanishing (drop (j + 1) xs) in
    let before = length-vanishing (take j xs) in
    let after = length-vanishing (drop (j + 1) xs) in
    let m = length-take-le j xs (omega (arith, l)) in
    let n = length-drop (j + 1) xs in
    let size = length-map-range_with_len (product_coef p q) 0 (length p + length q - 1) in
    omega (arith, size, before, after, m, n, l)

-- its value
pub val-basis : (xs : List ℕ) (j a : ℕ) → val (basis_polynomial xs j) a ≡ val (vanishing (take j xs)) a ⊗ val (vanishing (drop (j + 1) xs)) a
unfolding basis_polynomial
val-basis xs j a = val-product (vanishing (take j xs)) (vanishing (drop (j + 1) xs)) a

-- it is 0 at the others
pub basis-other : (xs : List ℕ) (i j : ℕ) → i < length xs → j < length xs → j ≢ i → val (basis_polynomial xs j) (get_or xs i 0) ≡ 0
basis-other xs i j l m apart =
    let x = get_or xs i 0 in
    let rest = drop (j + 1) xs in
    elim (cases_lt i j) [
      | inl before ↦
          val-basis xs j x
          ∙ ap (λ v. v ⊗ val (vanishing rest) x) (vanishing_take-before xs j i before (omega (arith, m))) ∙ zero_mul (val (vanishing rest) x)
      | inr past ↦
          let k = i - (j + 1) in
          let place : j + 1 + k ≡ i = omega (arith, past, apart) in
          let n = length-drop (j + 1) xs in
          let at : get_or rest k 0 ≡ x = get_or-drop (j + 1) xs k 0 ∙ ap (λ n. get_or xs n 0) place in
          val-basis xs j x
          ∙ ap (λ v. val (vanishing (take j xs)) x ⊗ v) (ap (val (vanishing rest)) (sym at) ∙ vanishing-member rest k (omega (arith, n, l, place)))
          ∙ mul_zero (val (vanishing (take j xs)) x)
    ]

module _ (xs : List ℕ) (bytes : All (λ x. x < 256) xs) (apart : AllPairs (λ x y. x ≢ y) xs) where
  -- none of the members behind is the one left out
  after-own : (j : ℕ) → j < length xs → val (vanishing (drop (j + 1) xs)) (get_or xs j 0) ≢ 0
  after-own j l zero =
      let x = get_or xs j 0 in
      let rest = drop (j + 1) xs in
      let n = length-drop (j + 1) xs in
      let member = Contains-from_root rest x (bytes j 0 l) (All-drop (λ x. x < 256) (j + 1) xs bytes) zero in
      let within = member.1 in
      apart j (j + 1 + member.0) x (omega arith) (omega (arith, n, within))
      (get_or_default xs j x 0 l ∙ sym member.2 ∙ get_or-drop (j + 1) xs member.0 x)

  -- so it is not 0 there
  pub basis-own : (j : ℕ) → j < length xs → val (basis_polynomial xs j) (get_or xs j 0) ≢ 0
  basis-own j l zero =
      let x = get_or xs j 0 in
      after-own j l
      (mul-eq-zero (val (vanishing (take j xs)) x) (val (vanishing (drop (j + 1) xs)) x) (val_lt (vanishing (take j xs)) x) (val_lt (vanishing (drop (j + 1) xs)) x)
      (vanishing_take-next xs j l bytes apart) (sym (val-basis xs j x) ∙ zero))

  -- the factor is 1 there
  pub factor-own : (j : ℕ) → j < length xs → factor xs j (get_or xs j 0) ≡ 1
  unfolding factor
  factor-own j l = mul_inverse (val (basis_polynomial xs j) (get_or xs j 0)) (val_lt (basis_polynomial xs j) (get_or xs j 0)) (basis-own j l)

-- and 0 at the others
pub factor-other : (xs : List ℕ) (i j : ℕ) → i < length xs → j < length xs → j ≢ i → factor xs j (get_or xs i 0) ≡ 0
unfolding factor
factor-other xs i j l m apart = ap (λ v. v ⊗ inverse (val (basis_polynomial xs j) (get_or xs j 0))) (basis-other xs i j l m apart) ∙ zero_mul _
