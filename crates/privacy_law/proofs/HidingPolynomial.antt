-- The hiding polynomial is the vanishing polynomial of the coalition, scaled so that its constant
-- is 1.
use Rattle.std.proofs.Common.{◌≡◌, ◌≢◌, ℕ, zero, suc, ◌+◌, ◌-◌, ◌<◌, List, [], ◌∷◌, length, map, get_or, fold, drop, All, refl, sym, ap, ap₂, ◌∙◌, arith, lit<, Contains}
use Rattle.std.proofs.lemmas.List.{drop_more, length-map}
use Rattle.std.proofs.lemmas.List.Elements.{All-head, All-tail}
use Rattle.std.proofs.lemmas.List.FromFn.{length-map-range_with_len}
use Rattle.gf256.specs.Field.{◌⊕◌, ◌⊗◌, inverse}
use Rattle.gf256.specs.Sums.{sum_to}
use Rattle.gf256.specs.Polynomial.{coef, val}
use Rattle.gf256.proofs.Xor.{zero_add, add-eq-zero}
use Rattle.gf256.proofs.FieldLaws.{ring, mul_lt, mul_one, one_mul, mul_zero, mul_comm}
use Rattle.gf256.proofs.Powers.{mul_inverse, inverse_lt, inverse_is}
use Rattle.gf256.proofs.Sums.{sum_to-same, mul-sum_to}
use Rattle.uni_poly.specs.Coefficients.{IsBytes}
use Rattle.uni_poly.specs.Product.{linear, product_coef, product, vanishing}
use Rattle.uni_poly.proofs.Coefficients.{list_from_same}
use Rattle.uni_poly.proofs.LinearFactor.{IsBytes-product}
use Rattle.uni_poly.proofs.Products.{coef-product, scale_list, coef-scale_list, val-scale_list}
use Rattle.uni_poly.proofs.Values.{val_cons}
use Rattle.uni_poly.proofs.VanishingPolynomial.{length-vanishing, root_from_Contains}
use Rattle.privacy_law.specs.Hiding.{factor, hiding}

-- ---- multiples of lists

-- a multiple is as long
length-scale_list : (k : ℕ) (p : List ℕ) → length (scale_list k p) ≡ length p
unfolding scale_list
length-scale_list k [] = refl
length-scale_list k (c ∷ p) = ap suc (length-scale_list k p)

-- a multiple, by the word of std
scale_list-map : (k : ℕ) (p : List ℕ) → scale_list k p ≡ map (◌⊗◌ k) p
unfolding scale_list
scale_list-map k [] = refl
scale_list-map k (c ∷ p) = ap (λ q. k ⊗ c ∷ q) (scale_list-map k p)

-- a product with two coefficients is one longer
length-product_two : (p : List ℕ) (c d : ℕ) → length (product p (c ∷ d ∷ [])) ≡ length p + 1
unfolding product
length-product_two p c d = length-map-range_with_len (product_coef p (c ∷ d ∷ [])) 0 (length p + 2 - 1) ∙ omega arith

-- ---- the factor

-- 1 - x/a is x - a times the inverse of a
coef-factor : (a e : ℕ) → a < 256 → a ≢ 0 → coef (factor a) e ≡ inverse a ⊗ coef (linear a) e
unfolding coef
coef-factor a zero l n = sym (mul_comm (inverse a) a ∙ mul_inverse a l n)
coef-factor a (suc zero) l n = sym (mul_one (inverse a) (inverse_lt a))
coef-factor a (suc (suc e)) l n = sym (mul_zero (inverse a))

-- so multiples of p times either are multiples of each other
times_factor : (k a : ℕ) (p : List ℕ) → a < 256 → a ≢ 0 → product (scale_list k p) (factor a) ≡ scale_list (k ⊗ inverse a) (product p (linear a))
unfolding product_coef
times_factor k a p l n =
    let long = length-product_two (scale_list k p) 1 (inverse a) ∙ ap (λ m. m + 1) (length-scale_list k p)
    ∙ sym (length-scale_list (k ⊗ inverse a) (product p (linear a)) ∙ length-product_two p a 1) in
    list_from_same (product (scale_list k p) (factor a)) (scale_list (k ⊗ inverse a) (product p (linear a))) long (λ e.
    coef-product (scale_list k p) (factor a) e
    ∙ sum_to-same (λ i. coef (scale_list k p) i ⊗ coef (factor a) (e - i)) (λ i. k ⊗ inverse a ⊗ (coef p i ⊗ coef (linear a) (e - i))) (e + 1) (λ i m.
    ap₂ ◌⊗◌ (coef-scale_list k p i) (coef-factor a (e - i) l n) ∙ simp ring)
    ∙ sym (mul-sum_to (k ⊗ inverse a) (λ i. coef p i ⊗ coef (linear a) (e - i)) (e + 1))
    ∙ ap (◌⊗◌ (k ⊗ inverse a)) (sym (coef-product p (linear a) e))
    ∙ sym (coef-scale_list (k ⊗ inverse a) (product p (linear a)) e))

-- ---- the product of the factors

-- k times the inverses of the members
unfoldable scaling : ℕ → List ℕ → ℕ
scaling k [] = k
scaling k (a ∷ xs) = scaling (k ⊗ inverse a) xs

-- it is a byte
scaling_lt : (k : ℕ) (xs : List ℕ) → k < 256 → scaling k xs < 256
unfolding scaling
scaling_lt k [] l = l
scaling_lt k (a ∷ xs) l = scaling_lt (k ⊗ inverse a) xs (mul_lt k (inverse a))

-- a multiple of p times all factors
times_factors : (k : ℕ) (p xs : List ℕ) → All (λ a. a < 256) xs → All (λ a. a ≢ 0) xs
    → fold (λ p a. product p (factor a)) (scale_list k p) xs ≡ scale_list (scaling k xs) (fold (λ p a. product p (linear a)) p xs)
unfolding scaling
times_factors k p [] bytes nonzero = refl
times_factors k p (a ∷ xs) bytes nonzero =
    ap (λ q. fold (λ p a. product p (factor a)) q xs) (times_factor k a p (All-head (λ a. a < 256) a xs bytes) (All-head (λ a. a ≢ 0) a xs nonzero))
    ∙ times_factors (k ⊗ inverse a) (product p (linear a)) xs (All-tail (λ a. a < 256) a xs bytes) (All-tail (λ a. a ≢ 0) a xs nonzero)

-- the constant stays 1
constant_one : (p xs : List ℕ) → coef p 0 ≡ 1 → coef (fold (λ p a. product p (factor a)) p xs) 0 ≡ 1
unfolding product_coef sum_to coef
constant_one p [] one = one
constant_one p (a ∷ xs) one =
    constant_one (product p (factor a)) xs (coef-product p (factor a) 0 ∙ zero_add _ ∙ ap (λ c. c ⊗ 1) one ∙ mul_one 1 (lit< tt))

-- the constant of the hiding polynomial is 1
pub hiding_first : (xs : List ℕ) → coef (hiding xs) 0 ≡ 1
unfolding hiding coef
hiding_first xs = constant_one (1 ∷ []) xs refl

-- the hiding polynomial is a multiple of the vanishing polynomial
hiding_multiple : (xs : List ℕ) → All (λ a. a < 256) xs → All (λ a. a ≢ 0) xs → hiding xs ≡ scale_list (scaling 1 xs) (vanishing xs)
unfolding hiding vanishing scale_list
hiding_multiple xs bytes nonzero =
    ap (λ c. fold (λ p a. product p (factor a)) (c ∷ []) xs) (sym (one_mul 1 (lit< tt))) ∙ times_factors 1 (1 ∷ []) xs bytes nonzero

-- the constant of the vanishing polynomial is a byte
vanishing_first_lt : (xs : List ℕ) → coef (vanishing xs) 0 < 256
unfolding vanishing coef
vanishing_first_lt xs = all (1 ∷ []) xs (lit< tt)
  where
    all : (p xs : List ℕ) → coef p 0 < 256 → coef (fold (λ p a. product p (linear a)) p xs) 0 < 256
    all p [] l = l
    all p (a ∷ xs) l = all (product p (linear a)) xs (IsBytes-product p (linear a) 0)

-- the hiding polynomial is the vanishing polynomial times the inverse of the latter's constant
pub hiding_from_vanishing : (xs : List ℕ) → All (λ a. a < 256) xs → All (λ a. a ≢ 0) xs
    → hiding xs ≡ map (◌⊗◌ (inverse (coef (vanishing xs) 0))) (vanishing xs)
hiding_from_vanishing xs bytes nonzero =
    let multiple = hiding_multiple xs bytes nonzero in
    let c = coef (vanishing xs) 0 in
    let k = scaling 1 xs in
    let one : c ⊗ k ≡ 1 = mul_comm c k ∙ sym (coef-scale_list k (vanishing xs) 0) ∙ ap (λ p. coef p 0) (sym multiple) ∙ hiding_first xs in
    multiple ∙ scale_list-map k (vanishing xs)
    ∙ ap (λ m. map (◌⊗◌ m) (vanishing xs)) (inverse_is c k (vanishing_first_lt xs) (scaling_lt 1 xs (lit< tt)) one)

-- this constant is not 0
pub vanishing_first : (xs : List ℕ) → All (λ a. a < 256) xs → All (λ a. a ≢ 0) xs → coef (vanishing xs) 0 ≢ 0
vanishing_first xs bytes nonzero none =
    let k = scaling 1 xs in
    let zero_is_one : ◌≡◌ {A = ℕ} 0 1 =
    sym (mul_zero k) ∙ ap (◌⊗◌ k) (sym none) ∙ sym (coef-scale_list k (vanishing xs) 0)
    ∙ ap (λ p. coef p 0) (sym (hiding_multiple xs bytes nonzero)) ∙ hiding_first xs in
    absurd (omega (arith, zero_is_one))

-- ---- what it hides

-- it has one coefficient more than the coalition has members
pub length-hiding : (xs : List ℕ) → All (λ a. a < 256) xs → All (λ a. a ≢ 0) xs → length (hiding xs) ≡ length xs + 1
length-hiding xs bytes nonzero =
    ap length (hiding_from_vanishing xs bytes nonzero) ∙ length-map (vanishing xs) (◌⊗◌ (inverse (coef (vanishing xs) 0))) ∙ length-vanishing xs

-- it is 0 at each member
pub hiding_zero : (xs : List ℕ) (a : ℕ) → All (λ a. a < 256) xs → All (λ a. a ≢ 0) xs → Contains xs a → val (hiding xs) a ≡ 0
hiding_zero xs a bytes nonzero member =
    ap (λ p. val p a) (hiding_multiple xs bytes nonzero) ∙ val-scale_list (scaling 1 xs) (vanishing xs) a
    ∙ ap (◌⊗◌ (scaling 1 xs)) (root_from_Contains xs a member) ∙ mul_zero _

-- so what stands above its constant is 1 at each member
pub hiding_rest : (xs : List ℕ) (a : ℕ) → All (λ a. a < 256) xs → All (λ a. a ≢ 0) xs → Contains xs a → a ⊗ val (drop 1 (hiding xs)) a ≡ 1
unfolding coef
hiding_rest xs a bytes nonzero member =
    let g = hiding xs in
    let long : 0 < length g = let e = length-hiding xs bytes nonzero in omega (arith, e) in
    let split : val g a ≡ 1 ⊕ a ⊗ val (drop 1 g) a =
    ap (λ p. val p a) (drop_more g 0 0 long) ∙ val_cons (get_or g 0 0) (drop 1 g) a
    ∙ ap (λ c. c ⊗ 1 ⊕ a ⊗ val (drop 1 g) a) (hiding_first xs) ∙ ap (λ c. c ⊕ a ⊗ val (drop 1 g) a) (mul_one 1 (lit< tt)) in
    sym (add-eq-zero 1 (a ⊗ val (drop 1 g) a) (sym split ∙ hiding_zero xs a bytes nonzero member))

-- each coefficient is a byte
pub IsBytes-hiding : (xs : List ℕ) → All (λ a. a < 256) xs → All (λ a. a ≢ 0) xs → IsBytes (hiding xs)
IsBytes-hiding xs bytes nonzero e =
    rw (hiding_multiple xs bytes nonzero, coef-scale_list (scaling 1 xs) (vanishing xs) e) (mul_lt (scaling 1 xs) (coef (vanishing xs) e))
