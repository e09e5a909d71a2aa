-- The longest value of a list.
use Rattle.std.proofs.Common.{◌≡◌, ℕ, ◌≤◌, List, [], ◌∷◌, ◌++◌, length, All, arith}
use Rattle.std.specs.Prelude.{max, fold}
use Rattle.std.proofs.Math.Nat.{le-max_left, le-max_right, max-le}
use Rattle.std.proofs.lemmas.List.Sums.{fold-append}
use Rattle.std.proofs.lemmas.List.Elements.{All-cons, All-head, All-nil, All-tail}
use Rattle.key_table.specs.Entry.{Pair}
use Rattle.list_builds.specs.Listing.{longest_of}

-- the greater of a number and the length of a value
abbrev longer : ℕ → Pair → ℕ
longer n p = max n (length p.value)

-- of a list with one more pair
pub longest_next : (pairs : List Pair) (p : Pair) → longest_of (pairs ++ p ∷ []) ≡ max (longest_of pairs) (length p.value)
unfolding longest_of
longest_next pairs p = fold-append longer 0 pairs (p ∷ [])

-- the greatest of lengths and a number is a bound of all
bounded : (a : ℕ) (pairs : List Pair) → (a ≤ fold longer a pairs) × All (λ p. length p.value ≤ fold longer a pairs) pairs
bounded a [] = (omega arith, All-nil (λ p. length p.value ≤ a))
bounded a (p ∷ pairs) =
    let more = bounded (longer a p) pairs in
    let most = fold longer (longer a p) pairs in (
      omega (arith, more.0, le-max_left a (length p.value)),
      All-cons (λ q. length q.value ≤ most) p pairs (omega (arith, more.0, le-max_right a (length p.value))) more.1,
    )

-- no value is longer
pub at_most_longest : (pairs : List Pair) → All (λ p. length p.value ≤ longest_of pairs) pairs
unfolding longest_of
at_most_longest pairs = (bounded 0 pairs).1

-- where no value is longer than so many bytes, the longest isn't
few_longer : (m a : ℕ) (pairs : List Pair) → a ≤ m → All (λ p. length p.value ≤ m) pairs → fold longer a pairs ≤ m
few_longer m a [] le all = le
few_longer m a (p ∷ pairs) le all =
    few_longer m (longer a p) pairs (max-le le (All-head (λ q. length q.value ≤ m) p pairs all)) (All-tail (λ q. length q.value ≤ m) p pairs all)

pub longest_few : (m : ℕ) (pairs : List Pair) → All (λ p. length p.value ≤ m) pairs → longest_of pairs ≤ m
unfolding longest_of
longest_few m pairs all = few_longer m 0 pairs (omega arith) all
