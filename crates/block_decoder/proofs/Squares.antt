-- Rows of marks that share few places pairwise are few (Johnson 1962): a double count, by Cauchy's inequality.
use Rattle.std.proofs.Common.{◌≡◌, ℕ, zero, suc, ◌+◌, ◌*◌, ◌-◌, ◌<◌, ◌≤◌, List, [], ◌∷◌, length, replicate, All, AllPairs, refl, sym, ap, ◌∙◌, subst, arith, inl, inr}
use Rattle.std.proofs.Math.Nat.{mul-le-mul_left}
use Rattle.std.proofs.lemmas.Bool.{cases_lt}
use Rattle.std.proofs.lemmas.List.{length-replicate}
use Rattle.std.proofs.lemmas.List.Elements.{All-head, All-tail}
use Rattle.std.proofs.lemmas.Nat.{le-div}
use Rattle.block_decoder.specs.Numbers.{bound_of}
use Rattle.block_decoder.proofs.Pairs.{AllPairs-head, AllPairs-tail}

-- the sum of the numbers
abbrev pub total : List ℕ → ℕ
total [] = 0
total (x ∷ xs) = x + total xs

-- the sum of their squares
abbrev pub squares : List ℕ → ℕ
squares [] = 0
squares (x ∷ xs) = x * x + squares xs

-- the sum of the products, place by place
abbrev pub dot : List ℕ → List ℕ → ℕ
dot [] ys = 0
dot (x ∷ xs) [] = 0
dot (x ∷ xs) (y ∷ ys) = x * y + dot xs ys

-- the sums, place by place
abbrev pub plus : List ℕ → List ℕ → List ℕ
plus [] ys = []
plus (x ∷ xs) [] = []
plus (x ∷ xs) (y ∷ ys) = (x + y) ∷ plus xs ys

-- ---- Cauchy's inequality

-- twice a product is at most the sum of the squares
two_le_squares : (a b : ℕ) → 2 * (a * b) ≤ a * a + b * b
two_le_squares a b =
    elim (cases_lt a b) [
      | inl less ↦
          let d : ℕ = b - a in
          let e : b ≡ a + d = omega arith in
          subst (λ x. 2 * (a * x) ≤ a * a + x * x) (sym e) (omega arith)
      | inr more ↦
          let d : ℕ = a - b in
          let e : a ≡ b + d = omega arith in
          subst (λ x. 2 * (x * b) ≤ x * x + b * b) (sym e) (omega arith)
    ]

-- a number against each of others
one_against : (x : ℕ) (ys : List ℕ) → 2 * (x * total ys) ≤ length ys * (x * x) + squares ys
one_against x [] = omega arith
one_against x (y ∷ ys) = let rest = one_against x ys in let two = two_le_squares x y in omega arith

-- the square of the total is at most the length times the sum of the squares
pub cauchy : (ys : List ℕ) → total ys * total ys ≤ length ys * squares ys
cauchy [] = omega arith
cauchy (y ∷ ys) = let rest = cauchy ys in let first = one_against y ys in omega arith

-- ---- zeros, and sums of two rows

-- zeros sum to 0
total-zeros : (k : ℕ) → total (replicate k 0) ≡ 0
total-zeros zero = refl
total-zeros (suc k) = let rest = total-zeros k in omega arith

-- so do their squares
squares-zeros : (k : ℕ) → squares (replicate k 0) ≡ 0
squares-zeros zero = refl
squares-zeros (suc k) = let rest = squares-zeros k in omega arith

-- and their products
dot-zeros : (xs : List ℕ) (k : ℕ) → dot xs (replicate k 0) ≡ 0
dot-zeros [] k = refl
dot-zeros (x ∷ xs) zero = refl
dot-zeros (x ∷ xs) (suc k) = let rest = dot-zeros xs k in omega arith

-- two rows are as long together as either
length-plus : (xs ys : List ℕ) → length xs ≡ length ys → length (plus xs ys) ≡ length xs
length-plus [] ys e = refl
length-plus (x ∷ xs) [] e = absurd (omega arith)
length-plus (x ∷ xs) (y ∷ ys) e = ap suc (length-plus xs ys (omega arith))

-- their total is both totals
total-plus : (xs ys : List ℕ) → length xs ≡ length ys → total (plus xs ys) ≡ total xs + total ys
total-plus [] [] e = refl
total-plus [] (y ∷ ys) e = absurd (omega arith)
total-plus (x ∷ xs) [] e = absurd (omega arith)
total-plus (x ∷ xs) (y ∷ ys) e = let rest = total-plus xs ys (omega arith) in omega arith

-- their squares are both squares and twice their products
squares-plus : (xs ys : List ℕ) → length xs ≡ length ys
    → squares (plus xs ys) ≡ squares xs + (2 * dot xs ys + squares ys)
squares-plus [] [] e = refl
squares-plus [] (y ∷ ys) e = absurd (omega arith)
squares-plus (x ∷ xs) [] e = absurd (omega arith)
squares-plus (x ∷ xs) (y ∷ ys) e = let rest = squares-plus xs ys (omega arith) in omega arith

-- products with both are the products with each
dot-plus : (zs xs ys : List ℕ) → length xs ≡ length ys → dot zs (plus xs ys) ≡ dot zs xs + dot zs ys
dot-plus [] xs ys e = refl
dot-plus (z ∷ zs) [] [] e = refl
dot-plus (z ∷ zs) [] (y ∷ ys) e = absurd (omega arith)
dot-plus (z ∷ zs) (x ∷ xs) [] e = absurd (omega arith)
dot-plus (z ∷ zs) (x ∷ xs) (y ∷ ys) e = let rest = dot-plus zs xs ys (omega arith) in omega arith

-- ---- the sums of many rows

-- h marks among k places, each 0 or 1
pub record IsRow (k h : ℕ) (row : List ℕ) : Type 0 where
  pub size : length row ≡ k
  pub marked : total row ≡ h
  pub squared : squares row ≡ h

-- two rows share at most t places
abbrev pub ShareFew : ℕ → List ℕ → List ℕ → Type 0
ShareFew t xs ys = dot xs ys ≤ t

-- how many of the rows are marked at each of k places
abbrev sums : ℕ → List (List ℕ) → List ℕ
sums k [] = replicate k 0
sums k (row ∷ rows) = plus row (sums k rows)

-- the sums of rows are as long as a row
length-sums : (k h : ℕ) (rows : List (List ℕ)) → All (IsRow k h) rows → length (sums k rows) ≡ k
length-sums k h [] all = length-replicate k 0
length-sums k h (row ∷ rows) all =
    let size = (All-head (IsRow k h) row rows all).size in
    length-plus row (sums k rows) (size ∙ sym (length-sums k h rows (All-tail (IsRow k h) row rows all))) ∙ size

-- a row and the sums of others are equally long
same_length : (k h : ℕ) (row : List ℕ) (rows : List (List ℕ)) → All (IsRow k h) (row ∷ rows)
    → length row ≡ length (sums k rows)
same_length k h row rows all =
    (All-head (IsRow k h) row rows all).size ∙ sym (length-sums k h rows (All-tail (IsRow k h) row rows all))

-- their total is that of all rows
total-sums : (k h : ℕ) (rows : List (List ℕ)) → All (IsRow k h) rows → total (sums k rows) ≡ length rows * h
total-sums k h [] all = let none = total-zeros k in omega (arith, none)
total-sums k h (row ∷ rows) all =
    let rest = total-sums k h rows (All-tail (IsRow k h) row rows all) in
    let first = (All-head (IsRow k h) row rows all).marked in
    let both = total-plus row (sums k rows) (same_length k h row rows all) in
    omega (arith, rest, first, both)

-- their products with a row are few where each row shares few marks with it
dot-sums : (k h t : ℕ) (xs : List ℕ) (rows : List (List ℕ)) → All (IsRow k h) rows → All (ShareFew t xs) rows
    → dot xs (sums k rows) ≤ length rows * t
dot-sums k h t xs [] all few = let none = dot-zeros xs k in omega (arith, none)
dot-sums k h t xs (row ∷ rows) all few =
    let rest = dot-sums k h t xs rows (All-tail (IsRow k h) row rows all) (All-tail (ShareFew t xs) row rows few) in
    let first = All-head (ShareFew t xs) row rows few in
    let both = dot-plus xs row (sums k rows) (same_length k h row rows all) in
    omega (arith, rest, first, both)

-- the sum of the squares counts the places that two rows share
squares-sums : (k h t : ℕ) (rows : List (List ℕ)) → All (IsRow k h) rows → AllPairs (ShareFew t) rows
    → squares (sums k rows) + length rows * t ≤ length rows * h + length rows * length rows * t
squares-sums k h t [] all few = let none = squares-zeros k in omega (arith, none)
squares-sums k h t (row ∷ rows) all few =
    let others = All-tail (IsRow k h) row rows all in
    let rest = squares-sums k h t rows others (AllPairs-tail (ShareFew t) row rows few) in
    let shared = dot-sums k h t row rows others (AllPairs-head (ShareFew t) row rows few) in
    let first = (All-head (IsRow k h) row rows all).squared in
    let both = squares-plus row (sums k rows) (same_length k h row rows all) in
    omega (arith, rest, shared, first, both)

-- ---- the double count

-- a factor that is not 0 may be left away
cancel : (n a b : ℕ) → 0 < n → n * a ≤ n * b → a ≤ b
cancel n a b some le =
    elim (cases_lt b a) [
      | inl less ↦ absurd (let more : n * suc b ≤ n * a = mul-le-mul_left n less in omega (arith, more, le, some))
      | inr is ↦ is
    ]

-- one of the n rows on each side is cancelled
one_cancelled : (n k h t s : ℕ) → 0 < n → n * h * (n * h) ≤ k * s → s + n * t ≤ n * h + n * n * t
    → n * (h * h) + k * t ≤ k * h + n * (k * t)
one_cancelled n k h t s some square most =
    let times = mul-le-mul_left k most in
    cancel n (n * (h * h) + k * t) (k * h + n * (k * t)) some (omega (arith, times, square))

-- the squares of the sums counted in two ways
double_count : (k h t : ℕ) (rows : List (List ℕ)) → 0 < length rows → All (IsRow k h) rows
    → AllPairs (ShareFew t) rows → length rows * (h * h) + k * t ≤ k * h + length rows * (k * t)
double_count k h t rows some all few =
    let size = length-sums k h rows all in
    let sum = total-sums k h rows all in
    let square = cauchy (sums k rows) in
    let places =
    subst (λ n. total (sums k rows) * total (sums k rows) ≤ n * squares (sums k rows)) size square in
    one_cancelled (length rows) k h t (squares (sums k rows)) some
    (subst (λ n. n * n ≤ k * squares (sums k rows)) sum places) (squares-sums k h t rows all few)

-- what is common to both sides is left away
without : (n k t h g d : ℕ) → h * h ≡ k * t + d → h ≡ t + g → n * (h * h) + k * t ≤ k * h + n * (k * t)
    → n * d ≤ k * g
without n k t h g d square more le =
    let left = ap (λ x. n * x) square in
    let right = ap (λ x. k * x) more in
    omega (arith, left, right, le)

-- rows of h marks among k places that share at most t places pairwise are few, where k * t < h * h
pub few_rows : (k t h : ℕ) (rows : List (List ℕ)) → t < h → k * t < h * h → All (IsRow k h) rows
    → AllPairs (ShareFew t) rows → length rows ≤ bound_of k t h
few_rows k t h [] less strong all few = omega arith
few_rows k t h (row ∷ rows) less strong all few =
    le-div (length (row ∷ rows)) (k * (h - t)) (h * h - k * t) (omega (arith, strong))
    (without (length (row ∷ rows)) k t h (h - t) (h * h - k * t) (omega (arith, strong)) (omega (arith, less))
    (double_count k h t (row ∷ rows) (omega arith) all few))
