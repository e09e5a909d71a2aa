-- A polynomial whose degree is less than the number of its zeros, each counted with its
-- multiplicity, is 0.
use Rattle.std.proofs.Common.{◌≡◌, ◌≢◌, ℕ, zero, suc, ◌+◌, ◌*◌, ◌<◌, List, [], ◌∷◌, length, replicate, sum, All, AllPairs, sym, subst, ◌∙◌, arith, mul-one}
use Rattle.std.specs.List.{AllZip}
use Rattle.std.proofs.lemmas.List.Sums.{sum_by-cons}
use Rattle.std.proofs.lemmas.List.Folds.{sum_by-replicate}
use Rattle.std.proofs.lemmas.List.Elements.{All-tail, All-head}
use Rattle.gf256.specs.Polynomial.{val}
use Rattle.uni_poly.specs.Coefficients.{HasDegreeBelow}
use Rattle.uni_poly.specs.Taylor.{VanishesAt}
use Rattle.uni_poly.proofs.Quotient.{quotient, IsLowZero, IsLowZero-from_zero, IsLowZero-from_quotient, HasDegreeBelow-quotient, VanishesAt-same, VanishesAt-other}
use Rattle.uni_poly.proofs.Taylor.{taylor-zero}

-- a root that is taken away leaves the multiplicities of all others
zeros-quotient : (xs ms : List ℕ) (p : List ℕ) (a : ℕ) → a < 256 → val p a ≡ 0 → All (λ x. (x < 256) × (a ≢ x)) xs
    → AllZip (VanishesAt p) xs ms → AllZip (VanishesAt (quotient p a)) xs ms
zeros-quotient [] [] p a ha v far z = tt
zeros-quotient [] (m ∷ ms) p a ha v far z = z
zeros-quotient (x ∷ xs) [] p a ha v far z = z
zeros-quotient (x ∷ xs) (m ∷ ms) p a ha v far z =
    let first = All-head (λ x. (x < 256) × (a ≢ x)) x xs far in (
      VanishesAt-other p a x m ha first.0 first.1 v z.0,
      zeros-quotient xs ms p a ha v (All-tail (λ x. (x < 256) × (a ≢ x)) x xs far) z.1,
    )

-- a zero of multiplicity m is taken away in m steps, each of which lowers the degree by one
one_by_one : (m a k : ℕ) (xs ms : List ℕ) (p : List ℕ) → a < 256 → All (λ x. (x < 256) × (a ≢ x)) xs
    → ((q : List ℕ) → HasDegreeBelow q k → AllZip (VanishesAt q) xs ms → IsLowZero q)
    → HasDegreeBelow p (m + k) → VanishesAt p a m → AllZip (VanishesAt p) xs ms → IsLowZero p
one_by_one zero a k xs ms p ha far rest h z o = rest p (λ e l. h e (omega arith)) o
one_by_one (suc m) a k xs ms p ha far rest h z o =
    let v = sym (taylor-zero p a) ∙ z 0 (omega arith) in
    IsLowZero-from_quotient p a
    (one_by_one m a k xs ms (quotient p a) ha far rest
    (HasDegreeBelow-quotient p a (m + k) (λ e l. h e (omega arith)))
    (VanishesAt-same p a m z)
    (zeros-quotient xs ms p a ha v far o))
    v

-- a polynomial with zeros at xs, whose multiplicities beside them add up to more than its degree,
-- is 0
pub too_many_zeros : (xs ms : List ℕ) (p : List ℕ) → All (λ x. x < 256) xs → AllPairs (λ x y. x ≢ y) xs → AllZip (VanishesAt p) xs ms
    → HasDegreeBelow p (sum ms) → IsLowZero p
too_many_zeros [] [] p bytes d z h = IsLowZero-from_zero p (λ e. h e (omega arith))
too_many_zeros [] (m ∷ ms) p bytes d z h = absurd z
too_many_zeros (x ∷ xs) [] p bytes d z h = absurd z
too_many_zeros (x ∷ xs) (m ∷ ms) p bytes d z h =
    let later = All-tail (λ x. x < 256) x xs bytes in
    one_by_one m x (sum ms) xs ms p (All-head (λ x. x < 256) x xs bytes)
    (λ k e l. (later k e l, d 0 (suc k) e (omega arith) (omega arith)))
    (λ q hq o. too_many_zeros xs ms q later (λ i j e l k. d (suc i) (suc j) e (omega arith) (omega arith)) o hq)
    (subst (HasDegreeBelow p) (sum_by-cons (λ x. x) m ms) h) z.0 z.1

-- ---- zeros of one multiplicity

-- they are m times as many
pub sum-replicate : (n m : ℕ) → sum (replicate n m) ≡ n * m
sum-replicate n m = sum_by-replicate (λ x. x) n m

-- zeros that all have the multiplicity m
pub zeros-replicate : (xs : List ℕ) (m : ℕ) (p : List ℕ) → All (λ x. VanishesAt p x m) xs → AllZip (VanishesAt p) xs (replicate (length xs) m)
zeros-replicate [] m p h = tt
zeros-replicate (x ∷ xs) m p h = (All-head (λ x. VanishesAt p x m) x xs h, zeros-replicate xs m p (All-tail (λ x. VanishesAt p x m) x xs h))

-- a root is a zero of multiplicity 1
pub VanishesAt-from_root : (p : List ℕ) (a : ℕ) → val p a ≡ 0 → VanishesAt p a 1
VanishesAt-from_root p a h zero l = taylor-zero p a ∙ h
VanishesAt-from_root p a h (suc u) l = absurd (omega arith)

-- a polynomial with more roots than its degree is 0
pub too_many_roots : (p xs : List ℕ) → All (λ x. x < 256) xs → AllPairs (λ x y. x ≢ y) xs → All (λ x. val p x ≡ 0) xs
    → HasDegreeBelow p (length xs) → IsLowZero p
too_many_roots p xs bytes d r h =
    too_many_zeros xs (replicate (length xs) 1) p bytes d
    (zeros-replicate xs 1 p (λ k e l. VanishesAt-from_root p _ (r k e l)))
    (subst (HasDegreeBelow p) (sym (sum-replicate (length xs) 1 ∙ mul-one (length xs))) h)
