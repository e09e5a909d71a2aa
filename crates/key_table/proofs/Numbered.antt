-- Places in the order of their numbers are in the order of their digests.
use Rattle.std.proofs.Common.{◌≡◌, ◌==◌, ◌&&◌, ℕ, ◌+◌, ◌<◌, ◌≤◌, Bool, true, false, cond, List, [], ◌∷◌, length, map, get_or, All, refl, sym, ap, ap₂, subst, ◌∙◌, arith, inl, inr, true≢false, ne_eqb, eq-eqb, Ordering, Less, Equal, Greater, nat_cmp, is_lt}
use Rattle.std.specs.Cmp.{IsStrictWeakOrder}
use Rattle.std.specs.Cmp.Lexicographic.{slice_cmp}
use Rattle.std.specs.List.{dedup, range_with_len}
use Rattle.std.specs.List.Sorted.{IsPermutation, IsSortedBy}
use Rattle.std.specs.Ordering.{ordering_then}
use Rattle.std.proofs.lemmas.Bool.{cases_eq, cases_order, lt-ltb}
use Rattle.std.proofs.lemmas.Cmp.{nat_cmp_total, nat_list_cmp_total, on_total, then_total, tied_itself}
use Rattle.std.proofs.lemmas.List.{get_or-map, length-map}
use Rattle.std.proofs.lemmas.List.FromFn.{fill_by_all, get_or-range_with_len, length-range_with_len}
use Rattle.std.proofs.lemmas.List.Elements.{All-head, All-tail}
use Rattle.std.proofs.lemmas.List.Filters.{All-dedup}
use Rattle.std.proofs.lemmas.List.Sorted.{All-permutation, IsPermutation-map, ranks_by}
use Rattle.key_table.specs.Digest.{number_of}
use Rattle.key_table.specs.Entry.{Pair, AreBytes}
use Rattle.key_table.specs.Held.{AreGathered, Held}
use Rattle.key_table.specs.Looked.{pair}
use Rattle.key_table.specs.Numbered.{AreNumbered, HasNumber, bare, comes_numbered, numbers, pairs_at, same_numbered}
use Rattle.key_table.specs.Places.{comes_before, digest_at, has_same_digest, pair_at, place_cmp}
use Rattle.key_table.specs.Scan.{AreOrdered}
use Rattle.key_table.specs.Sorting.{Sorted}
use Rattle.key_table.specs.declared.place.Place.{Place}
use Rattle.key_table.proofs.PlaceOrder.{same_text, tied_same}
use Rattle.key_table.proofs.RowOrder.{number_rises}
use Rattle.key_table.proofs.SortedPairs.{ordered_from_sort}

-- places with their numbers are in an order
pub numbered_rank : (list : List Pair) → IsStrictWeakOrder (comes_numbered list)
unfolding place_cmp
numbered_rank list =
    ranks_by (then_total (on_total (λ (p : Place). p.number) nat_cmp_total)
    (on_total (λ (p : Place). p.place) (then_total (on_total (digest_at list) nat_list_cmp_total) nat_cmp_total))) (λ (p : Place). p)

-- a place that has its number, whose digest is one of at least eight bytes
record IsNumbered (list : List Pair) (p : Place) : Type 0 where
  number : p.number ≡ number_of (digest_at list p.place)
  bytes : AreBytes (digest_at list p.place)
  long : 8 ≤ length (digest_at list p.place)

-- what isn't before another by its number isn't by its digest
agrees : (list : List Pair) (one other : Place) → IsNumbered list one → IsNumbered list other → comes_numbered list one other ≡ false
    → comes_before list one.place other.place ≡ false
unfolding place_cmp
agrees list one other a b h = elim (cases_order one.number other.number) [
  | inl same ↦
      let tied : nat_cmp one.number other.number ≡ Equal = ap (nat_cmp one.number) (sym same) ∙ tied_itself nat_cmp_total one.number in
      sym (ap (λ o. is_lt (ordering_then o rest)) tied) ∙ h
  | inr differ ↦ elim differ [
    | inl lt ↦
        let less : nat_cmp one.number other.number ≡ Less =
        ap (λ t. cond t Less (cond (one.number == other.number) Equal Greater)) (lt-ltb one.number other.number lt) in
        absurd (true≢false (sym (ap (λ o. is_lt (ordering_then o rest)) less) ∙ h))
    | inr gt ↦ by (slice_cmp nat_cmp (digest_at list one.place) (digest_at list other.place))
        (λ less. omega (arith, number_rises (digest_at list one.place) (digest_at list other.place) a.bytes a.long b.long less, a.number, b.number, gt))
        (λ tied. omega (arith, ap number_of (same_text (digest_at list one.place) (digest_at list other.place) tied), a.number, b.number, gt))
  ]
]
  where
    rest : Ordering
    rest = ordering_then (slice_cmp nat_cmp (digest_at list one.place) (digest_at list other.place)) (nat_cmp one.place other.place)

    by : (o : Ordering) → (o ≡ Less → ⊥) → (o ≡ Equal → ⊥) → is_lt (ordering_then o (nat_cmp one.place other.place)) ≡ false
    by Less less tied = absurd (less refl)
    by Equal less tied = absurd (tied refl)
    by Greater less tied = refl

module _ (held : Held) (order : List Place) (g : AreGathered held order) where
  -- each place is one of the list
  inside : All (λ k. k < length held.pairs) (bare order)
  inside k d lt =
      let n = length held.pairs in
      let low : k < n = omega (arith, lt, ap length g.places, length-range_with_len 0 n) in
      omega (arith, ap (λ ks. get_or ks k d) g.places, get_or-range_with_len 0 n k d low, low)

  -- each place that was moved has its number and a digest
  moved_numbered : (sorted : List Place) → IsPermutation order sorted → All (IsNumbered held.pairs) sorted
  moved_numbered sorted moved =
      All-permutation (IsNumbered held.pairs) order sorted moved
      (λ k d lt.
      let f : Place → ℕ = λ p. p.place in
      let low : (get_or order k d).place < length held.pairs =
      subst (λ j. j < length held.pairs) (get_or-map f order k d 0 lt) (inside k 0 (omega (arith, lt, length-map order f))) in
      record {
        number = g.numbers k d lt;
        bytes = g.bytes (get_or order k d).place (pair [] []) low;
        long = omega (arith, g.sizes (get_or order k d).place (pair [] []) low, g.least);
      })

  -- sorted by their numbers they are sorted by their digests
  sorted_bare : (sorted : List Place) → IsPermutation order sorted → IsSortedBy (comes_numbered held.pairs) sorted → IsSortedBy (comes_before held.pairs) (bare sorted)
  sorted_bare sorted moved up k d low high =
      let f : Place → ℕ = λ p. p.place in
      let none : Place = record { number = 0; place = d } in
      let next : k + 1 < length sorted = omega (arith, high, length-map sorted f) in
      let here : k < length sorted = omega (arith, next) in
      let all = moved_numbered sorted moved in
      ap₂ (comes_before held.pairs) (get_or-map f sorted (k + 1) none d next) (get_or-map f sorted k none d here)
      ∙ agrees held.pairs (get_or sorted (k + 1) none) (get_or sorted k none) (all (k + 1) none next) (all k none here) (up k none low next)

  -- places that were moved and sorted by their numbers are in order, each of them once
  pub ordered_from_numbers : (sorted : List Place) → IsPermutation order sorted → IsSortedBy (comes_numbered held.pairs) sorted → AreOrdered held.pairs (bare sorted)
  ordered_from_numbers sorted moved up =
      ordered_from_sort held.pairs (bare sorted)
      (subst (λ ks. IsPermutation ks (bare sorted)) g.places (IsPermutation-map (λ (p : Place). p.place) order sorted moved))
      (sorted_bare sorted moved up)

  -- they keep their numbers
  pub numbers_moved : (sorted : List Place) → IsPermutation order sorted → AreNumbered held.pairs sorted
  numbers_moved sorted moved =
      All-permutation (λ (p : Place). p.number ≡ number_of (digest_at held.pairs p.place)) order sorted moved g.numbers

-- of places that have their numbers those that have one number and one digest are those that have one digest
pub same_numbered_is : (list : List Pair) (one other : Place) → HasNumber list one → HasNumber list other
    → same_numbered list one other ≡ has_same_digest list one.place other.place
same_numbered_is list one other a b = elim (cases_eq one.number other.number) [
  | inl same ↦ ap (λ (t : Bool). t && has_same_digest list one.place other.place) (eq-eqb one.number other.number same)
  | inr differ ↦
      ap (λ (t : Bool). t && has_same_digest list one.place other.place) (ne_eqb one.number other.number differ)
      ∙ sym (by (has_same_digest list one.place other.place)
      (λ tied. differ (a ∙ ap number_of (tied_same (digest_at list one.place) (digest_at list other.place) tied) ∙ sym b)))
]
  where
    by : (t : Bool) → (t ≡ true → ⊥) → t ≡ false
    by true never = absurd (never refl)
    by false never = refl

-- of neighbours that are alike by tests that agree on them the same are kept
dedup_agreed : {X : Type 0} (E F : X → X → Bool) (P : X → Type 0) → ((a b : X) → P a → P b → E a b ≡ F a b)
    → (x : X) (xs : List X) → P x → All P xs → dedup E (x ∷ xs) ≡ dedup F (x ∷ xs)
dedup_agreed E F P same x [] h all = refl
dedup_agreed E F P same x (y ∷ ys) h all =
    let here = All-head P y ys all in
    let tail = All-tail P y ys all in
    ap (λ t. cond t (dedup E (x ∷ ys)) (x ∷ dedup E (y ∷ ys))) (same y x here h)
    ∙ ap₂ (λ us vs. cond (F y x) us (x ∷ vs)) (dedup_agreed E F P same x ys h tail) (dedup_agreed E F P same y ys here tail)

-- a choice of two lists, mapped
map-cond : {X Y : Type 0} (f : X → Y) (b : Bool) (xs ys : List X) → map f (cond b xs ys) ≡ cond b (map f xs) (map f ys)
map-cond f true xs ys = refl
map-cond f false xs ys = refl

-- of neighbours that are alike by what a function makes of them one is kept
dedup_mapped : {X Y : Type 0} (f : X → Y) (E : Y → Y → Bool) (x : X) (xs : List X)
    → map f (dedup (λ a b. E (f a) (f b)) (x ∷ xs)) ≡ dedup E (map f (x ∷ xs))
dedup_mapped f E x [] = refl
dedup_mapped f E x (y ∷ ys) =
    map-cond f (E (f y) (f x)) (dedup (λ a b. E (f a) (f b)) (x ∷ ys)) (x ∷ dedup (λ a b. E (f a) (f b)) (y ∷ ys))
    ∙ ap₂ (λ us vs. cond (E (f y) (f x)) us (f x ∷ vs)) (dedup_mapped f E x ys) (dedup_mapped f E y ys)

-- the places that are kept
pub bare_kept : (list : List Pair) (places : List Place) → AreNumbered list places
    → bare (dedup (same_numbered list) places) ≡ dedup (has_same_digest list) (bare places)
bare_kept list [] h = refl
bare_kept list (p ∷ ps) h =
    let own : Place → Place → Bool = λ a b. has_same_digest list a.place b.place in
    ap bare (dedup_agreed (same_numbered list) own (HasNumber list) (same_numbered_is list) p ps
    (All-head (HasNumber list) p ps h) (All-tail (HasNumber list) p ps h))
    ∙ dedup_mapped (λ (q : Place). q.place) (has_same_digest list) p ps

-- they keep their numbers
pub numbers_kept : (list : List Pair) (places : List Place) → AreNumbered list places → AreNumbered list (dedup (same_numbered list) places)
numbers_kept list places h =
    All-dedup (same_numbered list) (λ (p : Place). p.number ≡ number_of (digest_at list p.place)) places h

-- the number at an index is that of the digest of the pair there
pub number_there : (list : List Pair) (places : List Place) (i : ℕ) → i < length places → AreNumbered list places
    → get_or (numbers places) i 0 ≡ number_of (digest_at (map (pair_at list) (bare places)) i)
number_there list places i lt h =
    let none : Place = record { number = 0; place = 0 } in
    let f : Place → ℕ = λ p. p.place in
    let there : i < length (bare places) = omega (arith, lt, length-map places f) in
    get_or-map (λ (p : Place). p.number) places i none 0 lt
    ∙ h i none lt
    ∙ ap number_of (ap (digest_at list) (sym (get_or-map f places i none 0 lt))
    ∙ sym (ap (λ (p : Pair). p.digest) (get_or-map (pair_at list) (bare places) i 0 (pair [] []) there)))

-- the pairs of a list as they ascend
abbrev pub as_sorted : ℕ → ℕ → List Pair → Sorted
as_sorted size most pairs = record { size = size; most = most; pairs = pairs }

-- there are as many pairs at places as places
pub pairs_at_count : (list : List Pair) (places : List Place) → length (pairs_at list places) ≡ length places
pairs_at_count list places = length-map (bare places) (pair_at list) ∙ length-map places (λ (p : Place). p.place)

-- each of them is the pair at its place
pub pair_at_place : (list : List Pair) (places : List Place) (i : ℕ) (d : Place) → i < length places
    → get_or (pairs_at list places) i (pair [] []) ≡ pair_at list (get_or places i d).place
pair_at_place list places i d lt =
    let f : Place → ℕ = λ p. p.place in
    get_or-map (pair_at list) (bare places) i 0 (pair [] []) (omega (arith, lt, length-map places f))
    ∙ ap (pair_at list) (get_or-map f places i d 0 lt)

module _ (list : List Pair) (places new : List Place) (order : bare new ≡ range_with_len 0 (length places)) where
  -- the pairs at places, copied, are those at the places counted from 0
  pub pairs_counted : pairs_at (pairs_at list places) new ≡ pairs_at list places
  pairs_counted =
      let copy = pairs_at list places in
      ap (map (pair_at copy)) order
      ∙ ap (λ n. map (pair_at copy) (range_with_len 0 n)) (sym (pairs_at_count list places))
      ∙ sym (fill_by_all (pair_at copy) copy (length copy) (pair [] []) refl (λ k lt. refl))

  -- and these have the numbers of the copy's digests, where they kept theirs
  pub numbers_counted : numbers new ≡ numbers places → AreNumbered list places → AreNumbered (pairs_at list places) new
  numbers_counted same h k d lt =
      let f : Place → ℕ = λ p. p.place in
      let g : Place → ℕ = λ p. p.number in
      let n = length places in
      let there : k < n = omega (arith, lt, length-map new f, ap length order, length-range_with_len 0 n) in
      let own : (get_or new k d).place ≡ k =
      sym (get_or-map f new k d 0 lt) ∙ ap (λ ks. get_or ks k 0) order ∙ get_or-range_with_len 0 n k 0 there ∙ omega arith in
      let number : (get_or new k d).number ≡ (get_or places k d).number =
      sym (get_or-map g new k d 0 lt) ∙ ap (λ ns. get_or ns k 0) same ∙ get_or-map g places k d 0 there in
      number ∙ h k d there
      ∙ ap (λ (p : Pair). number_of p.digest) (sym (pair_at_place list places k d there))
      ∙ ap (λ j. number_of (digest_at (pairs_at list places) j)) (sym own)
