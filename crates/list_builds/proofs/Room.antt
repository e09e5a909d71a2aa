-- All entries of a list have room in the rows of its table.
use Rattle.std.proofs.Common.{◌≡◌, ◌∙◌, inl, inr, ℕ, zero, suc, ◌+◌, ◌*◌, ◌<◌, ◌≤◌, cond, Bool, List, [], ◌∷◌, length, refl, sym, ap₂, arith}
use Rattle.std.specs.Prelude.{◌==◌, nat_lt, All, filter}
use Rattle.std.specs.List.{count_by}
use Rattle.std.proofs.lemmas.Bool.{cases_eq, cases_lt, cond-false, cond-true, eq-eqb, le-ltb, lt-ltb, ne_eqb}
use Rattle.std.proofs.lemmas.List.Elements.{All-head, All-tail}
use Rattle.std.proofs.lemmas.List.Sums.{length-filter, sum_by-cons}
use Rattle.key_table.specs.Entry.{Pair}

-- 1 where a holds, else 0
abbrev one_if : Bool → ℕ
one_if a = cond a 1 0

-- a number is below the next of another where it is below that one, or it is that one
one_if_next : (k n : ℕ) → one_if (nat_lt k (suc n)) ≡ one_if (nat_lt k n) + one_if (k == n)
one_if_next k n = elim (cases_lt k n) [
  | inl lt ↦
      cond-true {A = ℕ} (nat_lt k (suc n)) 1 0 (lt-ltb _ _ (omega (arith, lt)))
      ∙ sym (ap₂ (λ a b. a + b) (cond-true {A = ℕ} (nat_lt k n) 1 0 (lt-ltb _ _ lt)) (cond-false {A = ℕ} (k == n) 1 0 (ne_eqb _ _ (λ e. omega (arith, e, lt)))))
  | inr ge ↦ elim (cases_eq k n) [
    | inl e ↦
        cond-true {A = ℕ} (nat_lt k (suc n)) 1 0 (lt-ltb _ _ (omega (arith, e)))
        ∙ sym (ap₂ (λ a b. a + b) (cond-false {A = ℕ} (nat_lt k n) 1 0 (le-ltb _ _ ge)) (cond-true {A = ℕ} (k == n) 1 0 (eq-eqb _ _ e)))
    | inr ne ↦
        cond-false {A = ℕ} (nat_lt k (suc n)) 1 0 (le-ltb _ _ (omega (arith, ge, ne)))
        ∙ sym (ap₂ (λ a b. a + b) (cond-false {A = ℕ} (nat_lt k n) 1 0 (le-ltb _ _ ge)) (cond-false {A = ℕ} (k == n) 1 0 (ne_eqb _ _ ne)))
  ]
]

-- how many pairs have a row below n
abbrev below : (Pair → ℕ) → ℕ → List Pair → ℕ
below row n pairs = count_by (λ p. nat_lt (row p) n) pairs

-- below the next row are those below this one, and its own
below_next : (row : Pair → ℕ) (n : ℕ) (pairs : List Pair) → below row (suc n) pairs ≡ below row n pairs + count_by (λ p. row p == n) pairs
below_next row n [] = refl
below_next row n (p ∷ pairs) =
    let next = sum_by-cons (λ q. one_if (nat_lt (row q) (suc n))) p pairs in
    let this = sum_by-cons (λ q. one_if (nat_lt (row q) n)) p pairs in
    let own = sum_by-cons (λ q. one_if (row q == n)) p pairs in
    omega (arith, next, this, own, one_if_next (row p) n, below_next row n pairs)

-- no row is below the first
below_first : (row : Pair → ℕ) (pairs : List Pair) → below row 0 pairs ≡ 0
below_first row [] = refl
below_first row (p ∷ pairs) =
    let this = sum_by-cons (λ q. one_if (nat_lt (row q) 0)) p pairs in
    let none = cond-false {A = ℕ} (nat_lt (row p) 0) 1 0 (le-ltb _ _ (omega arith)) in
    omega (arith, this, none, below_first row pairs)

-- where each row has a place below n, all do
below_all : (row : Pair → ℕ) (n : ℕ) (pairs : List Pair) → All (λ p. row p < n) pairs → below row n pairs ≡ length pairs
below_all row n [] all = refl
below_all row n (p ∷ pairs) all =
    let this = sum_by-cons (λ q. one_if (nat_lt (row q) n)) p pairs in
    let one = cond-true {A = ℕ} (nat_lt (row p) n) 1 0 (lt-ltb _ _ (All-head (λ q. row q < n) p pairs all)) in
    omega (arith, this, one, below_all row n pairs (All-tail (λ q. row q < n) p pairs all))

-- where no row has more than so many pairs, the first n rows have no more than n times as many
below_few : (row : Pair → ℕ) (most n : ℕ) (pairs : List Pair) → ((j : ℕ) → j < n → length (filter (λ p. row p == j) pairs) ≤ most)
    → below row n pairs ≤ n * most
below_few row most zero pairs few = omega (arith, below_first row pairs)
below_few row most (suc n) pairs few =
    let last = few n (omega arith) in
    let rest = below_few row most n pairs (λ j lt. few j (omega (arith, lt))) in
    let product : suc n * most ≡ n * most + most = grind arith in
    omega (arith, below_next row n pairs, length-filter (λ p. row p == n) pairs, last, rest, product)

-- all pairs are in rows
pub all_in_rows : (row : Pair → ℕ) (most rows : ℕ) (pairs : List Pair) → All (λ p. row p < rows) pairs
    → ((j : ℕ) → j < rows → length (filter (λ p. row p == j) pairs) ≤ most) → length pairs ≤ rows * most
all_in_rows row most rows pairs within few = omega (arith, below_all row rows pairs within, below_few row most rows pairs few)
