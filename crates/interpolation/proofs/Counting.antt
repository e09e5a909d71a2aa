-- The exponents of the monomials of a weighted degree, row by row.
use Rattle.std.proofs.Common.{◌≡◌, ◌≢◌, ℕ, zero, suc, ◌+◌, ◌-◌, ◌*◌, ◌<◌, ◌≤◌, List, [], ◌∷◌, ◌++◌, length, All, AllPairs, Contains, refl, ap, subst, ◌∙◌, arith, inl, inr, length-append, mul-le-mul_right}
use Rattle.std.proofs.lemmas.Bool.{cases_lt}
use Rattle.std.proofs.lemmas.List.Elements.{All-nil, All-cons, All-append, Contains-append_left, Contains-append_right}
use Rattle.std.proofs.lemmas.List.Kept.{AllPairs-cons}
use Rattle.interpolation.specs.Monomials.{monomials, monomials_below, ArePairs}

-- there are no monomials below weighted degree 0
pub monomials_below-none : (rows t : ℕ) → monomials_below rows t 0 ≡ 0
unfolding monomials_below
monomials_below-none zero t = refl
monomials_below-none (suc rows) t =
    let e : 0 - t ≡ 0 = omega arith in
    let ih = ap (monomials_below rows t) e ∙ monomials_below-none rows t in
    omega arith

-- the monomials of one row, and those of the others
pub monomials_below-row : (rows t n f : ℕ) → rows ≡ suc f → monomials_below rows t n ≡ n + monomials_below f t (n - t)
unfolding monomials_below
monomials_below-row rows t n f e = ap (λ r. monomials_below r t n) e

-- there are none in no rows
pub monomials_below-no_rows : (rows t n : ℕ) → rows ≡ 0 → monomials_below rows t n ≡ 0
unfolding monomials_below
monomials_below-no_rows rows t n e = ap (λ r. monomials_below r t n) e

-- each element of the first list has R to each of the second, and no two of one list break it
AllPairs-append : (R : ℕ × ℕ → ℕ × ℕ → Type 0) (xs ys : List (ℕ × ℕ)) → AllPairs R xs → AllPairs R ys → All (λ x. All (R x) ys) xs → AllPairs R (xs ++ ys)
AllPairs-append R [] ys h k a = k
AllPairs-append R (x ∷ xs) ys h k a =
    AllPairs-cons R x (xs ++ ys)
    (All-append (R x) xs ys (λ i d l. h 0 (suc i) d (omega arith) (omega arith)) (a 0 x (omega arith)))
    (AllPairs-append R xs ys (λ i j d l m. h (suc i) (suc j) d (omega arith) (omega arith)) k (λ i d l. a (suc i) d (omega arith)))

-- the pairs of row j with a first member below n
row_pairs : ℕ → ℕ → List (ℕ × ℕ)
row_pairs zero j = []
row_pairs (suc n) j = (n, j) ∷ row_pairs n j

-- there are n of them
length-row_pairs : (n j : ℕ) → length (row_pairs n j) ≡ n
unfolding row_pairs
length-row_pairs zero j = refl
length-row_pairs (suc n) j = ap suc (length-row_pairs n j)

-- they are in row j, below n
within-row_pairs : (n j : ℕ) → All (λ p. (p.0 < n) × (p.1 ≡ j)) (row_pairs n j)
unfolding row_pairs
within-row_pairs zero j = All-nil (λ p. (p.0 < zero) × (p.1 ≡ j))
within-row_pairs (suc n) j =
    let ih = within-row_pairs n j in
    All-cons (λ p. (p.0 < suc n) × (p.1 ≡ j)) (n, j) (row_pairs n j) (omega arith, refl)
    (λ k d l. let below = (ih k d l).0 in (omega arith, (ih k d l).1))

-- and all of those are there
all-row_pairs : (n j i : ℕ) → i < n → Contains (row_pairs n j) (i, j)
unfolding row_pairs
all-row_pairs zero j i l = absurd (omega arith)
all-row_pairs (suc n) j i l =
    elim (cases_lt i n) [
      | inl h ↦ let at = all-row_pairs n j i h in let inside = at.1 in (suc at.0, omega arith, at.2)
      | inr h ↦ let same : n ≡ i = omega arith in (0, omega arith, ap (λ x. (x, j)) same)
    ]

-- each once
once-row_pairs : (n j : ℕ) → AllPairs (λ p q. p ≢ q) (row_pairs n j)
unfolding row_pairs
once-row_pairs zero j = λ i k d l m. absurd (omega arith)
once-row_pairs (suc n) j =
    AllPairs-cons (λ p q. p ≢ q) (n, j) (row_pairs n j)
    (λ k d l e. let below = (within-row_pairs n j k d l).0 in let same = ap (λ (p : ℕ × ℕ). p.0) e in omega arith)
    (once-row_pairs n j)

-- the pairs of some rows from row j on, where n have their place in row j, and each later row has t less
pairs_from : ℕ → ℕ → ℕ → ℕ → List (ℕ × ℕ)
pairs_from zero t n j = []
pairs_from (suc rows) t n j = row_pairs n j ++ pairs_from rows t (n - t) (j + 1)

-- they are as many as the monomials counted row by row
length-pairs_from : (rows t n j : ℕ) → length (pairs_from rows t n j) ≡ monomials_below rows t n
unfolding pairs_from monomials_below
length-pairs_from zero t n j = refl
length-pairs_from (suc rows) t n j =
    let ih = length-pairs_from rows t (n - t) (j + 1) in
    let row = length-row_pairs n j in
    length-append (row_pairs n j) (pairs_from rows t (n - t) (j + 1)) ∙ omega arith

-- a weight in a later row, counted from the row before
step : (t p x j n : ℕ) → j + 1 ≤ x → p + t * (x - (j + 1)) < n - t → p + t * (x - j) < n
step t p x j n l h =
    let e : x - j ≡ x - (j + 1) + 1 = omega arith in
    let f = ap (λ k. t * k) e in
    omega arith

-- and the other way round
step_back : (t p x j n : ℕ) → j + 1 ≤ x → p + t * (x - j) < n → p + t * (x - (j + 1)) < n - t
step_back t p x j n l h =
    let e : x - j ≡ x - (j + 1) + 1 = omega arith in
    let f = ap (λ k. t * k) e in
    omega arith

-- each is in a row from j on, and of a weight below n
within-pairs_from : (rows t n j : ℕ) → All (λ p. (j ≤ p.1) × (p.0 + t * (p.1 - j) < n)) (pairs_from rows t n j)
unfolding pairs_from
within-pairs_from zero t n j = All-nil (λ p. (j ≤ p.1) × (p.0 + t * (p.1 - j) < n))
within-pairs_from (suc rows) t n j =
    let P = λ (p : ℕ × ℕ). (j ≤ p.1) × (p.0 + t * (p.1 - j) < n) in
    All-append P (row_pairs n j) (pairs_from rows t (n - t) (j + 1))
    (λ k d l.
    let at = within-row_pairs n j k d l in
    let below = at.0 in
    let same = at.1 in
    let none = ap (λ x. t * (x - j)) same in
    let zero_ : t * (j - j) ≡ 0 = let e : j - j ≡ 0 = omega arith in ap (λ x. t * x) e ∙ omega arith in
    (omega arith, omega arith))
    (λ k d l.
    let ih = within-pairs_from rows t (n - t) (j + 1) k d l in
    let later = ih.0 in
    (omega arith, step t _ _ j n ih.0 ih.1))

-- and all of those are there
all-pairs_from : (rows t n j i x : ℕ) → j ≤ x → x < j + rows → i + t * (x - j) < n → Contains (pairs_from rows t n j) (i, x)
unfolding pairs_from
all-pairs_from zero t n j i x l m h = absurd (omega arith)
all-pairs_from (suc rows) t n j i x l m h =
    elim (cases_lt j x) [
      | inl k ↦
          Contains-append_right (row_pairs n j) (pairs_from rows t (n - t) (j + 1)) (i, x)
          (all-pairs_from rows t (n - t) (j + 1) i x (omega arith) (omega arith) (step_back t i x j n (omega arith) h))
      | inr k ↦
          let same : j ≡ x = omega arith in
          Contains-append_left (row_pairs n j) (pairs_from rows t (n - t) (j + 1)) (i, x)
          (subst (λ y. Contains (row_pairs n j) (i, y)) same (all-row_pairs n j i (omega arith)))
    ]

-- each once
once-pairs_from : (rows t n j : ℕ) → AllPairs (λ p q. p ≢ q) (pairs_from rows t n j)
unfolding pairs_from
once-pairs_from zero t n j = λ i k d l m. absurd (omega arith)
once-pairs_from (suc rows) t n j =
    AllPairs-append (λ p q. p ≢ q) (row_pairs n j) (pairs_from rows t (n - t) (j + 1)) (once-row_pairs n j) (once-pairs_from rows t (n - t) (j + 1))
    (λ k d l u e m same.
    let here = (within-row_pairs n j k d l).1 in
    let later = (within-pairs_from rows t (n - t) (j + 1) u e m).0 in
    let equal = ap (λ (p : ℕ × ℕ). p.1) same in
    omega arith)

-- all pairs up to a weight
pub pairs : ℕ → ℕ → List (ℕ × ℕ)
pairs t d = pairs_from (d + 1) t (d + 1) 0

-- they are as many as the monomials
pub length-pairs : (t d : ℕ) → length (pairs t d) ≡ monomials t d
unfolding pairs
length-pairs t d = length-pairs_from (d + 1) t (d + 1) 0

-- counted from row 0
from_zero : (t x i d : ℕ) → i + t * (x - 0) < d + 1 → i + t * x ≤ d
from_zero t x i d l = let e : x - 0 ≡ x = omega arith in let f = ap (λ k. t * k) e in omega arith

-- and the other way round
to_zero : (t x i d : ℕ) → i + t * x ≤ d → i + t * (x - 0) < d + 1
to_zero t x i d l = let e : x - 0 ≡ x = omega arith in let f = ap (λ k. t * k) e in omega arith

-- a row past d has no pair
few_rows : (t i j d : ℕ) → 1 ≤ t → i + t * j ≤ d → j < d + 1
few_rows t i j d some l = let more : 1 * j ≤ t * j = mul-le-mul_right j some in omega arith

-- they are the pairs up to that weight, each once
pub are_pairs : (t d : ℕ) → 1 ≤ t → ArePairs t d (pairs t d)
unfolding pairs
are_pairs t d some = record {
  within = λ k e l. from_zero t _ _ d (within-pairs_from (d + 1) t (d + 1) 0 k e l).1;
  all = λ i j l. all-pairs_from (d + 1) t (d + 1) 0 i j (omega arith) (let few = few_rows t i j d some l in omega arith) (to_zero t j i d l);
  once = once-pairs_from (d + 1) t (d + 1) 0;
}
