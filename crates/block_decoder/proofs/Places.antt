-- The places of a list at which a test holds, and how many they are.
use Rattle.std.proofs.Common.{◌≡◌, ℕ, suc, ◌+◌, ◌<◌, ◌≤◌, Bool, true, false, List, [], ◌∷◌, length, get_or, take, count_by, filter, ◌&&◌, All, AllPairs, refl, sym, ap, ap₂, ◌∙◌, arith}
use Rattle.std.specs.List.{range_with_len}
use Rattle.std.specs.List.Sorted.{IsStrictlyIncreasing}
use Rattle.std.proofs.lemmas.List.Elements.{All-from_get_or, All-filter, filter_passes}
use Rattle.std.proofs.lemmas.List.FromFn.{length-range_with_len, get_or-range_with_len}
use Rattle.std.proofs.lemmas.List.Kept.{IsStrictlyIncreasing-filter, AllPairs-from_increasing}
use Rattle.std.proofs.lemmas.List.Sums.{count_by_more_yes, length-filter, sum_by-take-le}
use Rattle.std.proofs.lemmas.List.{take-take}
use Rattle.block_decoder.proofs.Counting.{one_if, count-cons}

-- no more elements pass in a shorter beginning
pub count_by-take : {X : Type 0} (test : X → Bool) (xs : List X) (m n : ℕ) → m ≤ n → count_by test (take m xs) ≤ count_by test (take n xs)
count_by-take test xs m n h = let e = sum_by-take-le (λ x. one_if (test x)) (take n xs) m in rw (take-take m n xs h) at e

-- places from one on are no more than the elements that pass
few_from : {X : Type 0} (test : X → Bool) (xs : List X) (d : X) (places : List ℕ) (from : ℕ)
    → AllPairs (λ p q. p < q) places → All (λ p. from ≤ p) places → All (λ p. p < length xs) places → All (λ p. test (get_or xs p d) ≡ true) places
    → count_by test (take from xs) + length places ≤ count_by test xs
few_from test xs d [] from ascending above within pass = let e = sum_by-take-le (λ x. one_if (test x)) xs from in omega arith
few_from test xs d (p ∷ places) from ascending above within pass =
    let here : p < length xs = within 0 0 (omega arith) in
    let low : from ≤ p = above 0 0 (omega arith) in
    let more = count_by_more_yes test xs p d here (pass 0 0 (omega arith)) in
    let mono = count_by-take test xs from p low in
    let later : All (λ q. p + 1 ≤ q) places = λ i e l. let a = ascending 0 (suc i) e (omega arith) (omega arith) in omega (arith, a) in
    let ih = few_from test xs d places (p + 1) (λ i j e l m. ascending (suc i) (suc j) e (omega arith) (omega arith)) later
    (λ i e l. within (suc i) e (omega arith)) (λ i e l. pass (suc i) e (omega arith)) in
    omega (arith, more, mono, ih)

-- different places at which the test holds are at most as many as the elements that pass
pub few_places : {X : Type 0} (test : X → Bool) (xs : List X) (d : X) (places : List ℕ)
    → IsStrictlyIncreasing places → All (λ p. p < length xs) places → All (λ p. test (get_or xs p d) ≡ true) places
    → length places ≤ count_by test xs
few_places test xs d places ascending within pass =
    let e = few_from test xs d places 0 (AllPairs-from_increasing places ascending) (λ i d l. omega arith) within pass in
    omega (arith, e)

-- the places at which the test holds
pub places_of : {X : Type 0} → (X → Bool) → List X → X → List ℕ
places_of test xs d = filter (λ p. test (get_or xs p d)) (range_with_len 0 (length xs))

-- they ascend
pub ascending-places_of : {X : Type 0} (test : X → Bool) (xs : List X) (d : X) → IsStrictlyIncreasing (places_of test xs d)
unfolding places_of
ascending-places_of test xs d =
    IsStrictlyIncreasing-filter _ (range_with_len 0 (length xs)) (λ k h.
    let n = length-range_with_len 0 (length xs) in
    let e = get_or-range_with_len 0 (length xs) k 0 (omega (arith, h, n)) in
    let f = get_or-range_with_len 0 (length xs) (k + 1) 0 (omega (arith, h, n)) in
    omega (arith, e, f))

-- each is a place of the list
pub within-places_of : {X : Type 0} (test : X → Bool) (xs : List X) (d : X) → All (λ p. p < length xs) (places_of test xs d)
unfolding places_of
within-places_of test xs d =
    All-filter _ (λ p. p < length xs) (range_with_len 0 (length xs)) (All-from_get_or (λ p. p < length xs) (range_with_len 0 (length xs)) 0 (λ i h.
    let n = length-range_with_len 0 (length xs) in
    let e = get_or-range_with_len 0 (length xs) i 0 (omega (arith, h, n)) in
    omega (arith, e, h, n)))

-- at each an element passes
pub pass-places_of : {X : Type 0} (test : X → Bool) (xs : List X) (d : X) → All (λ p. test (get_or xs p d) ≡ true) (places_of test xs d)
unfolding places_of
pass-places_of test xs d = filter_passes (λ p. test (get_or xs p d)) (range_with_len 0 (length xs))

-- as many places pass as elements
count_by-range : {X : Type 0} (test : X → Bool) (xs : List X) (d : X) (whole : List X) (from : ℕ)
    → ((i : ℕ) → i < length xs → get_or whole (from + i) d ≡ get_or xs i d)
    → count_by (λ p. test (get_or whole p d)) (range_with_len from (length xs)) ≡ count_by test xs
count_by-range test [] d whole from same = refl
count_by-range test (x ∷ xs) d whole from same =
    let first : get_or whole from d ≡ x = let e : from ≡ from + 0 = omega arith in ap (λ i. get_or whole i d) e ∙ same 0 (omega arith) in
    let later = count_by-range test xs d whole (from + 1) (λ i h. let e : from + 1 + i ≡ from + suc i = omega arith in ap (λ i. get_or whole i d) e ∙ same (suc i) (omega arith)) in
    count-cons (λ p. test (get_or whole p d)) from (range_with_len (from + 1) (length xs))
    ∙ ap₂ (λ (b : Bool) (n : ℕ). one_if b + n) (ap test first) later
    ∙ sym (count-cons test x xs)

-- they are as many as the elements that pass
pub length-places_of : {X : Type 0} (test : X → Bool) (xs : List X) (d : X) → length (places_of test xs d) ≡ count_by test xs
unfolding places_of
length-places_of test xs d = length-filter _ (range_with_len 0 (length xs)) ∙ count_by-range test xs d xs 0 (λ i h. let e : 0 + i ≡ i = omega arith in ap (λ i. get_or xs i d) e)

-- of two tests that pass both are counted once more
both_or_one : (a b : Bool) → one_if a + one_if b ≤ 1 + one_if (a && b)
both_or_one true true = omega arith
both_or_one true false = omega arith
both_or_one false b = grind arith

-- where two tests pass at many elements, they pass together at some
pub count_by_both : {X : Type 0} (p q : X → Bool) (xs : List X) → count_by p xs + count_by q xs ≤ length xs + count_by (λ x. p x && q x) xs
count_by_both p q [] = omega arith
count_by_both p q (x ∷ xs) =
    let first = count-cons p x xs in
    let second = count-cons q x xs in
    let both = count-cons (λ x. p x && q x) x xs in
    let here = both_or_one (p x) (q x) in
    let ih = count_by_both p q xs in
    omega (arith, first, second, both, here, ih)
