-- How often each byte is a root of a polynomial, and how many nodes of the tree that allows.
use Rattle.std.proofs.Common.{◌≡◌, ◌≢◌, ℕ, zero, suc, ◌+◌, ◌-◌, ◌<◌, ◌≤◌, List, [], ◌∷◌, length, map, get_or, sum, All, AllPairs, refl, sym, ap, ◌∙◌, inl, inr, arith, add-one}
use Rattle.std.specs.List.{AllZip}
use Rattle.std.proofs.lemmas.Bool.{cases_lt}
use Rattle.std.proofs.lemmas.List.Sums.{sum_by-cons}
use Rattle.std.proofs.lemmas.List.Elements.{All-cons, All-nil}
use Rattle.gf256.specs.Polynomial.{val}
use Rattle.uni_poly.specs.Coefficients.{IsBytes, IsZero, HasDegreeBelow}
use Rattle.uni_poly.specs.Taylor.{taylor, VanishesAt}
use Rattle.uni_poly.proofs.Coefficients.{HasDegreeBelow-length}
use Rattle.uni_poly.proofs.Multiplicity.{too_many_zeros}
use Rattle.uni_poly.proofs.Quotient.{IsZero-from_low}
use Rattle.uni_poly.proofs.Taylor.{taylor-zero}

-- one more than k where x is 0, else 0
unfoldable pub after_zero : ℕ → ℕ → ℕ
after_zero zero k = suc k
after_zero (suc x) k = 0

-- with how many zeros the first n numbers of f begin
unfoldable pub leading_zeros : (ℕ → ℕ) → ℕ → ℕ
leading_zeros f zero = 0
leading_zeros f (suc n) = after_zero (f 0) (leading_zeros (λ e. f (suc e)) n)

-- one more before them
zeros_before : (x k e : ℕ) (f : ℕ → ℕ) → x ≡ f 0 → ((i : ℕ) → i < k → f (suc i) ≡ 0) → e < after_zero x k → f e ≡ 0
unfolding after_zero
zeros_before zero k zero f h later l = sym h
zeros_before zero k (suc e) f h later l = later e (omega arith)
zeros_before (suc x) k e f h later l = absurd (omega arith)

-- they are zeros
are_zeros : (f : ℕ → ℕ) (n e : ℕ) → e < leading_zeros f n → f e ≡ 0
unfolding leading_zeros
are_zeros f zero e l = absurd (omega arith)
are_zeros f (suc n) e l = zeros_before (f 0) (leading_zeros (λ k. f (suc k)) n) e f refl (are_zeros (λ k. f (suc k)) n) l

-- one more before the end of them
end_before : (x k n : ℕ) (f : ℕ → ℕ) → x ≡ f 0 → (k < n → f (suc k) ≢ 0) → after_zero x k < suc n → f (after_zero x k) ≢ 0
unfolding after_zero
end_before zero k n f h later l = later (omega arith)
end_before (suc x) k n f h later l = λ z. let w = h ∙ z in absurd (omega (arith, w))

-- what ends them is not 0
end_of_zeros : (f : ℕ → ℕ) (n : ℕ) → leading_zeros f n < n → f (leading_zeros f n) ≢ 0
unfolding leading_zeros
end_of_zeros f zero l = absurd (omega arith)
end_of_zeros f (suc n) l = end_before (f 0) (leading_zeros (λ k. f (suc k)) n) n f refl (end_of_zeros (λ k. f (suc k)) n) l

-- how often a is a root of p
unfoldable pub multiplicity : List ℕ → ℕ → ℕ
multiplicity p a = leading_zeros (taylor p a) (length p)

-- p vanishes at a as often
VanishesAt-multiplicity : (p : List ℕ) (a : ℕ) → VanishesAt p a (multiplicity p a)
unfolding multiplicity
VanishesAt-multiplicity p a = are_zeros (taylor p a) (length p)

-- the bytes below g, from the greatest on
unfoldable pub numbers_below : ℕ → List ℕ
numbers_below zero = []
numbers_below (suc g) = g ∷ numbers_below g

-- the one at a place
get_or-below : (g i d : ℕ) → i < g → get_or (numbers_below g) i d ≡ g - suc i
unfolding numbers_below
get_or-below zero i d l = absurd (omega arith)
get_or-below (suc g) zero d l = omega arith
get_or-below (suc g) (suc i) d l = let ih = get_or-below g i d (omega arith) in omega (arith, ih)

-- how many they are
length-below : (g : ℕ) → length (numbers_below g) ≡ g
unfolding numbers_below
length-below zero = refl
length-below (suc g) = ap suc (length-below g)

-- no two are the same
different_below : (g : ℕ) → AllPairs (λ a b. a ≢ b) (numbers_below g)
different_below g i j d l m e =
    let size = length-below g in
    let first = get_or-below g i d (omega (arith, l, m, size)) in
    let second = get_or-below g j d (omega (arith, m, size)) in
    absurd (omega (arith, l, m, size, first, second, e))

-- they are bytes
bytes_below : (g : ℕ) → g ≤ 256 → All (λ a. a < 256) (numbers_below g)
unfolding numbers_below
bytes_below zero l = All-nil (λ a. a < 256)
bytes_below (suc g) l = All-cons (λ a. a < 256) g (numbers_below g) (omega arith) (bytes_below g (omega arith))

-- how many roots p has below g, each counted as often as it is one
unfoldable pub roots_below : List ℕ → ℕ → ℕ
roots_below p g = sum (map (multiplicity p) (numbers_below g))

-- none below 0
pub roots_below-zero : (p : List ℕ) → roots_below p 0 ≡ 0
unfolding roots_below numbers_below
roots_below-zero p = refl

-- one byte more
pub roots_below-more : (p : List ℕ) (g : ℕ) → roots_below p (g + 1) ≡ multiplicity p g + roots_below p g
unfolding roots_below numbers_below
roots_below-more p g = ap (roots_below p) (add-one g) ∙ sum_by-cons (λ m. m) (multiplicity p g) (map (multiplicity p) (numbers_below g))

-- p vanishes at each byte as often as that is a root
zeros_below : (p : List ℕ) (g : ℕ) → AllZip (VanishesAt p) (numbers_below g) (map (multiplicity p) (numbers_below g))
unfolding numbers_below
zeros_below p zero = tt
zeros_below p (suc g) = (VanishesAt-multiplicity p g, zeros_below p g)

module _ (p : List ℕ) (bytes : IsBytes p) (nonzero : IsZero p → ⊥) where
  -- a polynomial of degree at most d that is not 0 has at most d roots, each counted as often as it is one
  pub roots_below-le : (g d : ℕ) → g ≤ 256 → HasDegreeBelow p (d + 1) → roots_below p g ≤ d
  unfolding roots_below
  roots_below-le g d l h =
      elim (cases_lt d (roots_below p g)) [
        | inl more ↦
            absurd (nonzero (IsZero-from_low p bytes
            (too_many_zeros (numbers_below g) (map (multiplicity p) (numbers_below g)) p (bytes_below g l) (different_below g) (zeros_below p g)
            (λ e m. h e (omega (arith, more, m))))))
        | inr most ↦ most
      ]

  -- a is a root less often than p has coefficients
  multiplicity-lt : (a : ℕ) → a < 256 → multiplicity p a < length p
  multiplicity-lt a l =
      elim (cases_lt (multiplicity p a) (length p)) [
        | inl less ↦ less
        | inr past ↦
            let m = multiplicity p a in
            let total = sum_by-cons (λ m. m) m [] in
            absurd (nonzero (IsZero-from_low p bytes
            (too_many_zeros (a ∷ []) (m ∷ []) p (All-cons (λ a. a < 256) a [] l (All-nil (λ a. a < 256)))
            (λ i j d k n. absurd (omega (arith, k, n)))
            (VanishesAt-multiplicity p a, tt)
            (HasDegreeBelow-length p (sum (m ∷ [])) (omega (arith, past, total))))))
      ]

  -- the first coefficient of p(x + a) that is not 0
  pub taylor-multiplicity : (a : ℕ) → a < 256 → taylor p a (multiplicity p a) ≢ 0
  unfolding multiplicity
  taylor-multiplicity a l = end_of_zeros (taylor p a) (length p) (multiplicity-lt a l)

  -- a root is one at least once
  pub multiplicity_root : (a : ℕ) → a < 256 → val p a ≡ 0 → 1 ≤ multiplicity p a
  multiplicity_root a l v =
      elim (cases_lt 0 (multiplicity p a)) [
        | inl some ↦ some
        | inr none ↦
            let e : multiplicity p a ≡ 0 = omega (arith, none) in
            absurd (taylor-multiplicity a l (ap (taylor p a) e ∙ taylor-zero p a ∙ v))
      ]
