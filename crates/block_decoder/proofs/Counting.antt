-- How many elements of a list pass a test, one after the other.
use Rattle.std.proofs.Common.{◌≡◌, ℕ, ◌+◌, ◌≤◌, Bool, true, List, [], ◌∷◌, length, count_by, cond, All, inl, inr, refl, ap, arith}
use Rattle.std.proofs.lemmas.Bool.{cases_Bool}
use Rattle.std.proofs.lemmas.List.Elements.{All-nil, All-cons, All-head, All-tail}
use Rattle.std.proofs.lemmas.List.Sums.{sum_by-cons, count_by-le-length}

-- one if the test passed
abbrev pub one_if : Bool → ℕ
one_if b = cond b 1 0

-- the first, and those after it
pub count-cons : {X : Type 0} (test : X → Bool) (x : X) (xs : List X) → count_by test (x ∷ xs) ≡ one_if (test x) + count_by test xs
count-cons test x xs = sum_by-cons (λ y. one_if (test y)) x xs

-- where as many pass as there are, all pass
pub all_pass : {X : Type 0} (test : X → Bool) (xs : List X) → length xs ≤ count_by test xs → All (λ x. test x ≡ true) xs
all_pass test [] many = All-nil (λ x. test x ≡ true)
all_pass test (x ∷ xs) many =
    let more = count-cons test x xs in
    let few = count_by-le-length test xs in
    elim (cases_Bool (test x)) [
      | inl passed ↦
          let one = ap one_if passed in
          All-cons (λ x. test x ≡ true) x xs passed (all_pass test xs (omega (arith, many, more, one)))
      | inr failed ↦ let none = ap one_if failed in absurd (omega (arith, many, more, none, few))
    ]

-- and where all pass, as many
pub pass_all : {X : Type 0} (test : X → Bool) (xs : List X) → All (λ x. test x ≡ true) xs → count_by test xs ≡ length xs
pass_all test [] all = refl
pass_all test (x ∷ xs) all =
    let more = count-cons test x xs in
    let one = ap one_if (All-head (λ x. test x ≡ true) x xs all) in
    let rest = pass_all test xs (All-tail (λ x. test x ≡ true) x xs all) in
    omega (arith, more, one, rest)
