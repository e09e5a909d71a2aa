-- A polynomial is the sum of its Taylor coefficients at a times the powers of x - a.
use Rattle.std.proofs.Common.{◌≡◌, ℕ, zero, suc, ◌<◌, ◌≤◌, List, [], ◌∷◌, length, refl, sym, ap, ap₂, ◌∙◌, arith, inl, inr, lit<}
use Rattle.std.proofs.lemmas.List.{get_or_past, length-map}
use Rattle.std.proofs.lemmas.Bool.{cases_lt}
use Rattle.gf256.specs.Field.{◌⊕◌, ◌⊗◌}
use Rattle.gf256.specs.Sums.{sum_to}
use Rattle.gf256.specs.Polynomial.{coef}
use Rattle.gf256.proofs.Xor.{sums, add_zero, zero_add}
use Rattle.gf256.proofs.FieldLaws.{ring, add_mul, mul_lt, mul_one, mul_zero, zero_mul}
use Rattle.gf256.proofs.Sums.{sum_to-first, sum_to-same, sum_to-add, sum_to-zero}
use Rattle.uni_poly.specs.Coefficients.{IsBytes}
use Rattle.uni_poly.specs.Product.{linear, times_linear}
use Rattle.uni_poly.specs.Taylor.{taylor}
use Rattle.uni_poly.proofs.LinearFactor.{before, coef-product_linear, IsBytes-product}
use Rattle.uni_poly.proofs.Taylor.{taylor_lt}
use Rattle.bi_poly.specs.Rows.{row, cell}
use Rattle.bi_poly.specs.Hasse.{derivative, hasse}
use Rattle.bi_poly.specs.Expansion.{linear_power, expansion_coef}
use Rattle.bi_poly.proofs.Derivatives.{taylor-derivative}
use Rattle.bi_poly.proofs.Hasse.{derivatives, coef-derivatives, hasse-derivative}
use Rattle.bi_poly.proofs.Shift.{taylor-past}

-- the powers of x - a have bytes as coefficients
IsBytes-linear_power : (a u : ℕ) → IsBytes (times_linear (1 ∷ []) a u)
unfolding times_linear coef
IsBytes-linear_power a zero zero = lit< tt
IsBytes-linear_power a zero (suc e) = lit< tt
IsBytes-linear_power a (suc u) e = IsBytes-product (times_linear (1 ∷ []) a u) (linear a) e

-- the next power of x - a
linear_power-next : (a u j : ℕ) → linear_power a (suc u) j ≡ before (times_linear (1 ∷ []) a u) j ⊕ linear_power a u j ⊗ a
unfolding times_linear
linear_power-next a u j = coef-product_linear (times_linear (1 ∷ []) a u) a j (IsBytes-linear_power a u)

-- the order of four terms
pub regroup : (f g h k : ℕ) → (f ⊕ g) ⊕ (h ⊕ k) ≡ f ⊕ ((g ⊕ k) ⊕ h)
regroup f g h k = simp sums

-- the last term of a sum
sum_to-last : (f : ℕ → ℕ) (n : ℕ) → sum_to f (suc n) ≡ sum_to f n ⊕ f n
unfolding sum_to
sum_to-last f n = refl

-- two terms of the sum make one of the sum one place before
turn : (t x b a : ℕ) → a ⊗ t ⊗ x ⊕ t ⊗ (b ⊕ x ⊗ a) ≡ t ⊗ b
turn t x b a = simp ring

-- the sum of p is that of its later coefficients, one place on, and its first coefficient
expansion-cons : (c : ℕ) (p : List ℕ) (a m j : ℕ) → length p ≤ m
    → sum_to (λ v. taylor (c ∷ p) a v ⊗ linear_power a v j) (suc m)
    ≡ (c ⊗ 1) ⊗ linear_power a 0 j ⊕ sum_to (λ v. taylor p a v ⊗ before (times_linear (1 ∷ []) a v) j) m
unfolding taylor
expansion-cons c p a m j l =
    let L = λ (v : ℕ). linear_power a v j in
    let T = taylor p a in
    let F = λ (v : ℕ). taylor (c ∷ p) a v ⊗ L v in
    let G = λ (v : ℕ). a ⊗ T v ⊗ L v in
    let H = λ (v : ℕ). T v ⊗ L (suc v) in
    let last : G m ≡ 0 = ap (λ x. a ⊗ x ⊗ L m) (taylor-past p a m l) ∙ ap (λ x. x ⊗ L m) (mul_zero a) ∙ zero_mul (L m) in
    sum_to-first F m
    ∙ ap (◌⊕◌ (F 0)) (sum_to-same (λ v. F (suc v)) (λ v. H v ⊕ G (suc v)) m (λ v k. add_mul (T v) (a ⊗ T (suc v)) (L (suc v))) ∙ sum_to-add H (λ v. G (suc v)) m)
    ∙ ap (λ x. x ⊕ (sum_to H m ⊕ sum_to (λ v. G (suc v)) m)) (add_mul (c ⊗ 1) (a ⊗ T 0) (L 0))
    ∙ regroup ((c ⊗ 1) ⊗ L 0) (G 0) (sum_to H m) (sum_to (λ v. G (suc v)) m)
    ∙ ap (λ x. (c ⊗ 1) ⊗ L 0 ⊕ (x ⊕ sum_to H m)) (sym (sum_to-first G m) ∙ sum_to-last G m ∙ ap (◌⊕◌ (sum_to G m)) last ∙ add_zero _)
    ∙ ap (◌⊕◌ ((c ⊗ 1) ⊗ L 0))
    (sym (sum_to-add G H m)
    ∙ sum_to-same (λ v. G v ⊕ H v) (λ v. T v ⊗ before (times_linear (1 ∷ []) a v) j) m
    (λ v k. ap (λ x. G v ⊕ T v ⊗ x) (linear_power-next a v j) ∙ turn (T v) (L v) (before (times_linear (1 ∷ []) a v) j) a))

-- derivative u of row j
pub derivatives-row : (q : List (List ℕ)) (a u j : ℕ) → coef (derivatives q a u) j ≡ taylor (row q j) a u
unfolding derivatives coef
derivatives-row q a u j =
    elim (cases_lt j (length q)) [
      | inl within ↦ coef-derivatives q a u j within ∙ sym (taylor-derivative (row q j) a u)
      | inr past ↦
          let size = length-map q (λ r. derivative r a u) in
          get_or_past (derivatives q a u) j 0 (omega arith)
          ∙ sym (ap (λ r. taylor r a u) (get_or_past q j [] past) ∙ taylor-past [] a u (omega arith))
    ]

-- one variable: n is any number from the length on
pub expansion : (p : List ℕ) (a n j : ℕ) → length p ≤ n → sum_to (λ v. taylor p a v ⊗ linear_power a v j) n ≡ coef p j ⊗ 1
unfolding taylor coef before times_linear
expansion [] a n j l = sum_to-zero _ n (λ v k. zero_mul _) ∙ sym (zero_mul 1)
expansion (c ∷ p) a zero j l = absurd (omega arith)
expansion (c ∷ p) a (suc m) zero l =
    expansion-cons c p a m 0 (omega arith)
    ∙ ap₂ ◌⊕◌ (mul_one (c ⊗ 1) (mul_lt c 1)) (sum_to-zero _ m (λ v k. mul_zero _)) ∙ add_zero _
expansion (c ∷ p) a (suc m) (suc j) l =
    expansion-cons c p a m (suc j) (omega arith)
    ∙ ap₂ ◌⊕◌ (mul_zero _) (expansion p a m j (omega arith)) ∙ zero_add _

-- two variables: each coefficient of q is that of the sum of its Hasse derivatives times the powers
-- of x - a and y - b
pub expansion2 : (q : List (List ℕ)) (a b n j i : ℕ) → ((k : ℕ) → length (row q k) ≤ n) → cell q j i < 256 → expansion_coef q a b n j i ≡ cell q j i
unfolding cell derivatives
expansion2 q a b n j i l h =
    let size = λ (u : ℕ). length-map q (λ r. derivative r a u) in
    sum_to-same (λ u. sum_to (λ v. hasse q u v a b ⊗ linear_power b v j) (length q) ⊗ linear_power a u i)
    (λ u. taylor (row q j) a u ⊗ linear_power a u i) n
    (λ u k. ap (λ x. x ⊗ linear_power a u i)
    (sum_to-same (λ v. hasse q u v a b ⊗ linear_power b v j) (λ v. taylor (derivatives q a u) b v ⊗ linear_power b v j) (length q)
    (λ v m. ap (λ x. x ⊗ linear_power b v j) (hasse-derivative q u v a b ∙ sym (taylor-derivative (derivatives q a u) b v)))
    ∙ expansion (derivatives q a u) b (length q) j (omega (arith, size u))
    ∙ ap (λ x. x ⊗ 1) (derivatives-row q a u j)
    ∙ mul_one _ (taylor_lt (row q j) a u)))
    ∙ expansion (row q j) a n i (l j)
    ∙ mul_one _ h
