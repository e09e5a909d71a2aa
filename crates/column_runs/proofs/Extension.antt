-- Values of polynomials by Lagrange's factors (Lagrange 1795).
use Rattle.std.proofs.Common.{◌≡◌, ◌≢◌, ℕ, zero, suc, ◌+◌, ◌<◌, List, [], ◌∷◌, length, map, replicate, get_or, All, AllPairs, sym, ap, ap₂, subst, ◌∙◌, arith, lit<, add-one, inl, inr}
use Rattle.std.specs.List.{range_with_len}
use Rattle.std.proofs.lemmas.Bool.{cases_lt}
use Rattle.std.proofs.lemmas.List.{get_or_past, get_or-map, length-map, length-replicate, get_or-replicate}
use Rattle.std.proofs.lemmas.List.Elements.{All-from_get_or}
use Rattle.std.proofs.lemmas.List.FromFn.{length-map-range_with_len, get_or-map-range_with_len}
use Rattle.gf256.specs.Field.{◌⊕◌, ◌⊗◌, inverse}
use Rattle.gf256.specs.Sums.{sum_to}
use Rattle.gf256.specs.Polynomial.{coef, val}
use Rattle.gf256.proofs.Xor.{sums, add_zero}
use Rattle.gf256.proofs.FieldLaws.{one_mul, mul_one, mul_zero, zero_mul, mul_add, add_mul, mul_assoc, mul_lt}
use Rattle.gf256.proofs.Sums.{sum_to-same, sum_to-one, sum_to-add, sum_to-mul, sum_to-first}
use Rattle.uni_poly.specs.Interpolation.{Interpolates}
use Rattle.uni_poly.proofs.Combination.{combined, length-combined, bytes-combined, val-combined}
use Rattle.uni_poly.proofs.Uniqueness.{same_list}
use Rattle.uni_poly.proofs.Values.{val_lt, val_cons, val_zero}
use Rattle.column_runs.specs.Lagrange.{basis_polynomial, factor, extended, Extends}
use Rattle.column_runs.proofs.Basis.{length-basis, factor-own, factor-other}

-- the basis polynomials of the xs
basis : List ℕ → List (List ℕ)
basis xs = map (basis_polynomial xs) (range_with_len 0 (length xs))

-- what member j of the basis is multiplied by, so that its value at its place is that of ys
scale : List ℕ → List ℕ → ℕ → ℕ
scale xs ys j = inverse (val (basis_polynomial xs j) (get_or xs j 0)) ⊗ get_or ys j 0

-- the polynomial that takes the ys at the xs
pub through_all : List ℕ → List ℕ → List ℕ
through_all xs ys = combined (basis xs) (map (scale xs ys) (range_with_len 0 (length xs))) (length xs)

-- its value
pub val-through_all : (xs ys : List ℕ) (a : ℕ) → val (through_all xs ys) a ≡ sum_to (λ j. factor xs j a ⊗ get_or ys j 0) (length xs)
unfolding through_all basis scale factor
val-through_all xs ys a =
    let n = length xs in
    let scales = map (scale xs ys) (range_with_len 0 n) in
    let size = length-map-range_with_len (basis_polynomial xs) 0 n in
    let member : (j : ℕ) (d : List ℕ) → j < n → get_or (basis xs) j d ≡ basis_polynomial xs j =
    λ j d l. get_or-map-range_with_len (basis_polynomial xs) 0 n j j d l (omega arith) in
    val-combined (basis xs) scales n a
    (All-from_get_or (λ p. length p ≡ n) (basis xs) [] (λ j l. ap length (member j [] (omega (arith, l, size))) ∙ length-basis xs j (omega (arith, l, size))))
    ∙ ap (sum_to (λ j. val (get_or (basis xs) j []) a ⊗ get_or scales j 0)) size
    ∙ sum_to-same (λ j. val (get_or (basis xs) j []) a ⊗ get_or scales j 0) (λ j. factor xs j a ⊗ get_or ys j 0) n
    (λ j l.
    ap₂ (λ p s. val p a ⊗ s) (member j [] l) (get_or-map-range_with_len (scale xs ys) 0 n j j 0 l (omega arith))
    ∙ sym (mul_assoc (val (basis_polynomial xs j) a) (inverse (val (basis_polynomial xs j) (get_or xs j 0))) (get_or ys j 0)))

-- the polynomial that is 1 everywhere, with m more coefficients
one : ℕ → List ℕ
one m = 1 ∷ replicate m 0

-- of zeros each is 0
zeros : (m e : ℕ) → get_or {A = ℕ} (replicate m 0) e 0 ≡ 0
zeros m e =
    elim (cases_lt e m) [
      | inl l ↦ get_or-replicate m e 0 0 l
      | inr past ↦ get_or_past (replicate m 0) e 0 (let n = length-replicate {A = ℕ} m 0 in omega (arith, n, past))
    ]

-- one has so many coefficients
length-one : (m : ℕ) → length (one m) ≡ suc m
unfolding one
length-one m = ap suc (length-replicate {A = ℕ} m 0)

-- they are bytes
bytes-one : (m : ℕ) → All (λ c. c < 256) (one m)
unfolding one
bytes-one m = All-from_get_or (λ c. c < 256) (1 ∷ replicate m 0) 0 (λ k l. at k)
  where
    at : (k : ℕ) → get_or (1 ∷ replicate m 0) k 0 < 256
    at zero = lit< tt
    at (suc k) = subst (λ c. c < 256) (sym (zeros m k)) (lit< tt)

-- it is 1 everywhere
val-one : (m x : ℕ) → val (one m) x ≡ 1
unfolding one coef
val-one m x =
    val_cons 1 (replicate m 0) x
    ∙ ap₂ (λ c v. c ⊕ x ⊗ v) (mul_one 1 (lit< tt)) (val_zero (replicate m 0) x (λ e. ap (λ c. c ⊗ 1) (zeros m e) ∙ zero_mul 1))
    ∙ ap (◌⊕◌ 1) (mul_zero x) ∙ add_zero 1

-- a factor is a byte
factor_lt : (xs : List ℕ) (j a : ℕ) → factor xs j a < 256
unfolding factor
factor_lt xs j a = mul_lt (val (basis_polynomial xs j) a) (inverse (val (basis_polynomial xs j) (get_or xs j 0)))

-- where two factors sum to 1, the one can be had from the other
regroup : (f rest first total : ℕ) → f ⊕ rest ≡ 1 → first < 256 → f ⊗ first ⊕ total ≡ first ⊕ (total ⊕ rest ⊗ first)
regroup f rest first total one small =
    let whole : first ≡ f ⊗ first ⊕ rest ⊗ first = sym (one_mul first small) ∙ ap (λ x. x ⊗ first) (sym one) ∙ add_mul f rest first in
    let e : f ⊗ first ⊕ total ≡ (f ⊗ first ⊕ rest ⊗ first) ⊕ (total ⊕ rest ⊗ first) = simp sums in
    e ∙ ap (λ x. x ⊕ (total ⊕ rest ⊗ first)) (sym whole)

module _ (xs : List ℕ) (bytes : All (λ x. x < 256) xs) (apart : AllPairs (λ x y. x ≢ y) xs) where
  -- it takes them
  pub through_all-interpolates : (ys : List ℕ) → All (λ y. y < 256) ys → length ys ≡ length xs → Interpolates xs ys (through_all xs ys)
  unfolding through_all
  through_all-interpolates ys small same =
      let n = length xs in
      let scales = map (scale xs ys) (range_with_len 0 n) in
      record {
        size = length-combined (basis xs) scales n;
        bytes = bytes-combined (basis xs) scales n;
        through = λ i l.
            let x = get_or xs i 0 in
            val-through_all xs ys x
            ∙ sum_to-one (λ j. factor xs j x ⊗ get_or ys j 0) n i l
            (λ j m other. ap (λ f. f ⊗ get_or ys j 0) (factor-other xs i j l m other) ∙ zero_mul (get_or ys j 0))
            ∙ ap (λ f. f ⊗ get_or ys i 0) (factor-own xs bytes apart i l) ∙ one_mul (get_or ys i 0) (small i 0 (omega (arith, l, same)));
      }

  -- the value of a polynomial anywhere
  pub by_factors : (phi : List ℕ) (a : ℕ) → length phi ≡ length xs → All (λ c. c < 256) phi
      → val phi a ≡ sum_to (λ j. factor xs j a ⊗ val phi (get_or xs j 0)) (length xs)
  by_factors phi a size small =
      let ys = map (val phi) xs in
      let n = length-map xs (val phi) in
      let at : (j : ℕ) → j < length xs → get_or ys j 0 ≡ val phi (get_or xs j 0) = λ j l. get_or-map (val phi) xs j 0 0 l in
      let is : Interpolates xs ys phi = record {
        size = size;
        bytes = small;
        through = λ i l. sym (at i l);
      } in
      ap (λ p. val p a)
      (same_list xs ys phi (through_all xs ys) bytes apart is
      (through_all-interpolates ys (All-from_get_or (λ y. y < 256) ys 0 (λ j l. subst (λ y. y < 256) (sym (at j (omega (arith, l, n)))) (val_lt phi (get_or xs j 0)))) n))
      ∙ val-through_all xs ys a
      ∙ sum_to-same (λ j. factor xs j a ⊗ get_or ys j 0) (λ j. factor xs j a ⊗ val phi (get_or xs j 0)) (length xs)
      (λ j l. ap (λ y. factor xs j a ⊗ y) (at j l))

  -- the factors sum to 1
  pub factors-sum : (m a : ℕ) → length xs ≡ suc m → sum_to (λ j. factor xs j a) (length xs) ≡ 1
  factors-sum m a size =
      sym
      (sym (val-one m a)
      ∙ by_factors (one m) a (length-one m ∙ sym size) (bytes-one m)
      ∙ sum_to-same (λ j. factor xs j a ⊗ val (one m) (get_or xs j 0)) (λ j. factor xs j a) (length xs)
      (λ j l. ap (λ v. factor xs j a ⊗ v) (val-one m (get_or xs j 0)) ∙ mul_one (factor xs j a) (factor_lt xs j a)))

  -- the value, by the differences of the others from the first
  pub by_differences : (m : ℕ) (phi : List ℕ) (a : ℕ) → length xs ≡ suc m → length phi ≡ length xs → All (λ c. c < 256) phi
      → val phi a ≡ val phi (get_or xs 0 0) ⊕ sum_to (λ i. factor xs (i + 1) a ⊗ (val phi (get_or xs (i + 1) 0) ⊕ val phi (get_or xs 0 0))) m
  by_differences m phi a size same small =
      let v = λ (j : ℕ). val phi (get_or xs j 0) in
      let f = λ (j : ℕ). factor xs j a in
      let first = v 0 in
      let total = sum_to (λ i. f (suc i) ⊗ v (suc i)) m in
      let rest = sum_to (λ i. f (suc i)) m in
      let one : f 0 ⊕ rest ≡ 1 = sym (sum_to-first f m) ∙ ap (sum_to f) (sym size) ∙ factors-sum m a size in
      let split : sum_to (λ i. f (i + 1) ⊗ (v (i + 1) ⊕ first)) m ≡ total ⊕ rest ⊗ first =
      sum_to-same (λ i. f (i + 1) ⊗ (v (i + 1) ⊕ first)) (λ i. f (suc i) ⊗ v (suc i) ⊕ f (suc i) ⊗ first) m
      (λ i l. ap (λ j. f j ⊗ (v j ⊕ first)) (add-one i) ∙ mul_add (f (suc i)) (v (suc i)) first)
      ∙ sum_to-add (λ i. f (suc i) ⊗ v (suc i)) (λ i. f (suc i) ⊗ first) m
      ∙ ap (◌⊕◌ total) (sym (sum_to-mul first (λ i. f (suc i)) m)) in
      by_factors phi a same small
      ∙ ap (sum_to (λ j. f j ⊗ v j)) size ∙ sum_to-first (λ j. f j ⊗ v j) m
      ∙ regroup (f 0) rest first total one (val_lt phi (get_or xs 0 0))
      ∙ ap (◌⊕◌ first) (sym split)

-- factors of the others, in their order
pub extends : (xs factors : List ℕ) (a : ℕ) → All (λ x. x < 256) xs → AllPairs (λ x y. x ≢ y) xs → length xs ≡ length factors + 1
    → ((i : ℕ) → i < length factors → get_or factors i 0 ≡ factor xs (i + 1) a) → Extends xs a factors
unfolding extended
extends xs factors a bytes apart size each = record {
  size = size;
  value = λ phi is.
      let v = λ (j : ℕ). val phi (get_or xs j 0) in
      by_differences xs bytes apart (length factors) phi a (size ∙ add-one (length factors)) (is.size ∙ sym size) is.bytes
      ∙ ap (◌⊕◌ (v 0))
      (sum_to-same (λ i. factor xs (i + 1) a ⊗ (v (i + 1) ⊕ v 0)) (λ i. get_or factors i 0 ⊗ (v (i + 1) ⊕ v 0)) (length factors)
      (λ i l. ap (λ f. f ⊗ (v (i + 1) ⊕ v 0)) (sym (each i l))));
}
