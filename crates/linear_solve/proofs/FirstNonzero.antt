-- The first place of a list that isn't 0.
use Rattle.std.proofs.Common.{◌≡◌, ◌≢◌, ℕ, suc, ◌+◌, ◌<◌, ◌≤◌, Bool, true, false, not, nat_eq, List, [], ◌∷◌, Some, None, MatchOption, length, get_or, set, sum, position, refl, ◌∙◌, arith, inl, inr, get_or-set_same, get_or-set_other}
use Rattle.std.specs.List.{position_or_len}
use Rattle.std.specs.Option.{IsSome}
use Rattle.std.proofs.lemmas.Bool.{cases_lt, cases_eq}
use Rattle.std.proofs.lemmas.Grind.{common_steps}
use Rattle.std.proofs.lemmas.List.{get_or_past}
use Rattle.std.proofs.lemmas.List.Sums.{sum_by-cons, sum_by-set, passes_at_first, fails_before_first}
use Rattle.linear_solve.specs.Kernel.{component}

-- the test of `first_nonzero`
abbrev nonzero : ℕ → Bool
nonzero x = not (nat_eq x 0)

-- it fails at 0 alone
nonzero-no : (x : ℕ) → nonzero x ≡ false → x ≡ 0
nonzero-no x e = grind (arith, common_steps)

-- it passes at no 0
nonzero-yes : (x : ℕ) → nonzero x ≡ true → x ≢ 0
nonzero-yes x e z = grind (arith, common_steps)

-- where there is none, all are 0
all_zero : (xs : List ℕ) → length xs ≤ position_or_len nonzero xs → (k : ℕ) → component xs k ≡ 0
unfolding component
all_zero xs l k =
    elim (cases_lt k (length xs)) [
      | inl m ↦ nonzero-no _ (fails_before_first nonzero xs k 0 (omega arith))
      | inr m ↦ get_or_past xs k 0 m
    ]

-- it is in range and isn't 0; where there is none, all are 0
pub first_nonzero-is : (xs : List ℕ) → MatchOption (position nonzero xs) ((k : ℕ) → component xs k ≡ 0) (λ c. (c < length xs) × (component xs c ≢ 0))
unfolding component
first_nonzero-is xs =
    elim (cases_lt (position_or_len nonzero xs) (length xs)) [
      | inl l ↦
          let e : position nonzero xs ≡ Some (position_or_len nonzero xs) = grind (arith, common_steps) in
          rw e (l, nonzero-yes _ (passes_at_first nonzero xs 0 l))
      | inr l ↦
          let e : position nonzero xs ≡ None = grind (arith, common_steps) in
          rw e (all_zero xs l)
    ]

-- a list of zeros has the sum 0
sum-zeros : (xs : List ℕ) → ((k : ℕ) → get_or xs k 0 ≡ 0) → sum xs ≡ 0
sum-zeros [] h = refl
sum-zeros (x ∷ xs) h =
    let z = h 0 in
    let ih = sum-zeros xs (λ k. h (suc k)) in
    let s = sum_by-cons (λ (y : ℕ). y) x xs in
    omega (arith, s)

-- a list with a sum that isn't 0 has one
pub first_nonzero-some : (xs : List ℕ) → sum xs ≢ 0 → IsSome (position nonzero xs)
unfolding component
first_nonzero-some xs n =
    elim (cases_lt (position_or_len nonzero xs) (length xs)) [
      | inl l ↦
          let e : position nonzero xs ≡ Some (position_or_len nonzero xs) = grind (arith, common_steps) in
          rw e refl
      | inr l ↦ absurd (n (sum-zeros xs (all_zero xs l)))
    ]

-- a mark that was cleared is 0, and what was 0 stays so
pub get_or-cleared : (xs : List ℕ) (i k : ℕ) → i < length xs → (k ≢ i → get_or xs k 0 ≡ 0) → get_or (set xs i 0) k 0 ≡ 0
get_or-cleared xs i k l h =
    elim (cases_eq k i) [
      | inl e ↦ rw e (get_or-set_same xs i 0 0 l)
      | inr d ↦ get_or-set_other xs i k 0 0 d ∙ h d
    ]

-- clearing a mark makes none greater
pub get_or-cleared-le : (xs : List ℕ) (i k : ℕ) → i < length xs → get_or xs k 0 ≤ 1 → get_or (set xs i 0) k 0 ≤ 1
get_or-cleared-le xs i k l h =
    elim (cases_eq k i) [
      | inl e ↦ rw e (let s = get_or-set_same xs i 0 0 l in omega arith)
      | inr d ↦ let s = get_or-set_other xs i k 0 0 d in omega arith
    ]

-- clearing a mark of at most 1 takes at most 1 from the sum
pub sum-cleared : (xs : List ℕ) (i : ℕ) → i < length xs → get_or xs i 0 ≤ 1 → sum xs ≤ sum (set xs i 0) + 1
sum-cleared xs i l h = let s = sum_by-set (λ (y : ℕ). y) xs i 0 0 l in omega (arith, s)
