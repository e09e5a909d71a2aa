-- A zero of multiplicity m at a is a factor (x - a)^m, and the other way.
use Rattle.std.proofs.Common.{◌≡◌, ℕ, zero, suc, List, refl, sym, ap, ap₂, ◌∙◌, arith}
use Rattle.gf256.specs.Field.{◌⊕◌, ◌⊗◌}
use Rattle.gf256.specs.Polynomial.{coef, val}
use Rattle.gf256.proofs.Xor.{add_zero, zero_add, add_self}
use Rattle.gf256.proofs.FieldLaws.{zero_mul}
use Rattle.uni_poly.specs.Coefficients.{IsBytes, IsSame}
use Rattle.uni_poly.specs.Product.{linear, product, times_linear, HasFactor}
use Rattle.uni_poly.specs.Taylor.{taylor, VanishesAt}
use Rattle.uni_poly.proofs.LinearFactor.{before, coef-product_linear, taylor-product_linear, product_linear-root, IsBytes-product}
use Rattle.uni_poly.proofs.Taylor.{taylor-zero, taylor-same}
use Rattle.uni_poly.proofs.Quotient.{quotient, coef-quotient_first, coef-quotient_later, IsBytes-quotient, VanishesAt-same}

-- products of one polynomial by x - a are the same
product_linear-same : (p q : List ℕ) (a : ℕ) → IsBytes p → IsBytes q → IsSame p q → IsSame (product p (linear a)) (product q (linear a))
unfolding before
product_linear-same p q a hp hq h zero =
    coef-product_linear p a 0 hp ∙ ap (λ x. 0 ⊕ x ⊗ a) (h 0) ∙ sym (coef-product_linear q a 0 hq)
product_linear-same p q a hp hq h (suc e) =
    coef-product_linear p a (suc e) hp ∙ ap₂ (λ x y. x ⊕ y ⊗ a) (h e) (h (suc e)) ∙ sym (coef-product_linear q a (suc e) hq)

-- a polynomial with the root a is x - a times its quotient
quotient-product_linear : (p : List ℕ) (a : ℕ) → IsBytes p → val p a ≡ 0 → IsSame p (product (quotient p a) (linear a))
unfolding before
quotient-product_linear p a h v zero =
    let bytes = IsBytes-quotient p a in
    coef-quotient_first p a h ∙ ap (◌⊕◌ (coef (quotient p a) 0 ⊗ a)) v ∙ add_zero _ ∙ sym (coef-product_linear (quotient p a) a 0 bytes ∙ zero_add _)
quotient-product_linear p a h v (suc e) =
    let bytes = IsBytes-quotient p a in
    coef-quotient_later p a e h ∙ sym (coef-product_linear (quotient p a) a (suc e) bytes)

-- its coefficients are bytes
IsBytes-times_linear : (q : List ℕ) (a m : ℕ) → IsBytes q → IsBytes (times_linear q a m)
unfolding times_linear
IsBytes-times_linear q a zero h = h
IsBytes-times_linear q a (suc m) h = IsBytes-product (times_linear q a m) (linear a)

-- the quotient has the factor once less
pub HasFactor-from_zero : (m a : ℕ) (p : List ℕ) → IsBytes p → VanishesAt p a m → HasFactor p a m
unfolding times_linear
HasFactor-from_zero zero a p h z = (p, h, λ e. refl)
HasFactor-from_zero (suc m) a p h z =
    let bytes = IsBytes-quotient p a in
    let less = HasFactor-from_zero m a (quotient p a) bytes (VanishesAt-same p a m z) in
    let whole = quotient-product_linear p a h (sym (taylor-zero p a) ∙ z 0 (omega arith)) in
    let same = product_linear-same (quotient p a) (times_linear less.0 a m) a bytes (IsBytes-times_linear less.0 a m less.1) less.2 in
    (less.0, less.1, λ e. whole e ∙ same e)

-- each factor x - a moves the zeros one place on
times_linear-vanishes : (m a : ℕ) (q : List ℕ) → IsBytes q → VanishesAt (times_linear q a m) a m
unfolding times_linear
times_linear-vanishes zero a q h u l = absurd (omega arith)
times_linear-vanishes (suc m) a q h zero l =
    taylor-zero (product (times_linear q a m) (linear a)) a ∙ product_linear-root (times_linear q a m) a
times_linear-vanishes (suc m) a q h (suc u) l =
    let p = times_linear q a m in
    taylor-product_linear p a a u (IsBytes-times_linear q a m h)
    ∙ ap₂ ◌⊕◌ (times_linear-vanishes m a q h u (omega arith)) (ap (λ x. x ⊗ taylor p a (suc u)) (add_self a) ∙ zero_mul _)
    ∙ add_zero 0

-- a factor (x - a)^m gives a zero of multiplicity m
pub VanishesAt-from_factor : (m a : ℕ) (p : List ℕ) → HasFactor p a m → VanishesAt p a m
VanishesAt-from_factor m a p f u l = taylor-same p (times_linear f.0 a m) a u f.2 ∙ times_linear-vanishes m a f.0 f.1 u l
