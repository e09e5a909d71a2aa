-- The sum of products of polynomials, two by two: of what a server answers that holds shares, each column is the value of one.
use Rattle.std.proofs.Common.{◌≡◌, ℕ, ◌+◌, ◌-◌, ◌<◌, List, [], length, map, get_or, All, ap, ap₂, ◌∙◌, arith}
use Rattle.std.specs.List.{range_with_len}
use Rattle.std.proofs.lemmas.List.FromFn.{length-map-range_with_len, get_or-map-range_with_len}
use Rattle.gf256.specs.Field.{◌⊗◌}
use Rattle.gf256.specs.Sums.{sum_to}
use Rattle.gf256.specs.Polynomial.{coef, val, IsPolynomial}
use Rattle.gf256.proofs.FieldLaws.{mul_lt, mul_one}
use Rattle.gf256.proofs.Sums.{sum_to-same}
use Rattle.uni_poly.specs.Product.{product_coef, product}
use Rattle.uni_poly.proofs.Series.{times}
use Rattle.uni_poly.proofs.Products.{coef-product_times, val-product}
use Rattle.uni_poly.proofs.Combination.{combined, length-combined, bytes-combined, coef-combined, val-combined}

-- the product of two polynomials of degrees t and tau has t + tau + 1 coefficients
length-product : (p q : List ℕ) (t tau : ℕ) → length p ≡ t + 1 → length q ≡ tau + 1 → length (product p q) ≡ t + tau + 1
unfolding product
length-product p q t tau long deep = length-map-range_with_len (product_coef p q) 0 (length p + length q - 1) ∙ omega (arith, long, deep)

-- its constant is the product of the constants
constant-product : (p q : List ℕ) → coef (product p q) 0 ≡ coef p 0 ⊗ coef q 0
unfolding times
constant-product p q = coef-product_times p q 0

module _ (f g : ℕ → List ℕ) (r t tau : ℕ) where
  products : List (List ℕ)
  products = map (λ j. product (f j) (g j)) (range_with_len 0 r)

  ones : List ℕ
  ones = map (λ j. 1) (range_with_len 0 r)

  -- the sum of the products of r pairs, as so many coefficients as one of degree t + tau has
  pub product_sum : List ℕ
  product_sum = combined products ones (t + tau + 1)

  pub degree-product_sum : IsPolynomial (t + tau) product_sum
  unfolding product_sum
  degree-product_sum = record { size = length-combined products ones (t + tau + 1); bytes = bytes-combined products ones (t + tau + 1) }

  length-products : length products ≡ r
  unfolding products
  length-products = length-map-range_with_len (λ j. product (f j) (g j)) 0 r

  product_is : (j : ℕ) (d : List ℕ) → j < r → get_or products j d ≡ product (f j) (g j)
  unfolding products
  product_is j d l = get_or-map-range_with_len (λ j. product (f j) (g j)) 0 r j j d l (omega arith)

  one_is : (j : ℕ) → j < r → get_or ones j 0 ≡ 1
  unfolding ones
  one_is j l = get_or-map-range_with_len (λ j. 1) 0 r j j 0 l (omega arith)

  module _ (long : (j : ℕ) → j < r → length (f j) ≡ t + 1) (deep : (j : ℕ) → j < r → length (g j) ≡ tau + 1) where
    sizes : All (λ p. length p ≡ t + tau + 1) products
    sizes = λ j d l.
        let k : j < r = omega (arith, l, length-products) in
        ap length (product_is j d k) ∙ length-product (f j) (g j) t tau (long j k) (deep j k)

    -- its value is the sum of the products of their values
    pub val-product_sum : (a : ℕ) → val product_sum a ≡ sum_to (λ j. val (f j) a ⊗ val (g j) a) r
    unfolding product_sum
    val-product_sum a =
        val-combined products ones (t + tau + 1) a sizes
        ∙ ap (sum_to (λ j. val (get_or products j []) a ⊗ get_or ones j 0)) length-products
        ∙ sum_to-same (λ j. val (get_or products j []) a ⊗ get_or ones j 0) (λ j. val (f j) a ⊗ val (g j) a) r
        (λ j l.
        ap₂ ◌⊗◌ (ap (λ p. val p a) (product_is j [] l) ∙ val-product (f j) (g j) a) (one_is j l)
        ∙ mul_one (val (f j) a ⊗ val (g j) a) (mul_lt (val (f j) a) (val (g j) a)))

    -- its constant is the sum of the products of their constants
    pub constant-product_sum : coef product_sum 0 ≡ sum_to (λ j. coef (f j) 0 ⊗ coef (g j) 0) r
    unfolding product_sum
    constant-product_sum =
        coef-combined products ones (t + tau + 1) 0 (omega arith)
        ∙ ap (sum_to (λ j. coef (get_or products j []) 0 ⊗ get_or ones j 0)) length-products
        ∙ sum_to-same (λ j. coef (get_or products j []) 0 ⊗ get_or ones j 0) (λ j. coef (f j) 0 ⊗ coef (g j) 0) r
        (λ j l.
        ap₂ ◌⊗◌ (ap (λ p. coef p 0) (product_is j [] l) ∙ constant-product (f j) (g j)) (one_is j l)
        ∙ mul_one (coef (f j) 0 ⊗ coef (g j) 0) (mul_lt (coef (f j) 0) (coef (g j) 0)))
