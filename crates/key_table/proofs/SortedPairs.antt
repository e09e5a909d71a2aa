-- The pairs at the places that are kept are those of the list, as they ascend.
use Rattle.std.proofs.Common.{◌≡◌, ℕ, ◌+◌, ◌<◌, ◌≤◌, Bool, true, List, [], ◌∷◌, ◌++◌, length, map, get_or, All, Contains, refl, sym, ap, ap₂, subst, ◌∙◌, arith, true≢false, Ordering, Less, Equal, Greater, nat_cmp}
use Rattle.std.specs.List.{AllByRecursion, Any, dedup, range_with_len}
use Rattle.std.specs.List.Sorted.{IsPermutation, IsSorted, IsSortedBy, IsStrictlySortedBy}
use Rattle.std.specs.Ordering.{is_eq, on, ordering_then}
use Rattle.std.specs.Cmp.Lexicographic.{slice_cmp}
use Rattle.std.proofs.lemmas.Bool.{cond_both}
use Rattle.std.proofs.lemmas.Cmp.{eq_by_cmp_equiv, nat_list_cmp_total, on_total}
use Rattle.std.proofs.lemmas.List.{get_or-map, get_or_default, length-map}
use Rattle.std.proofs.lemmas.List.FromFn.{get_or-range_with_len, length-range_with_len}
use Rattle.std.proofs.lemmas.List.Kept.{Any-dedup, Contains-from_dedup, IsStrictlySortedBy-dedup}
use Rattle.std.proofs.lemmas.List.Elements.{All-contains, All-head, All-tail, All-weaker}
use Rattle.std.proofs.lemmas.List.Sorted.{All-permutation, Contains-permutation}
use Rattle.key_table.specs.Entry.{Pair, AreBytes, HasSizes, entry, value_bytes}
use Rattle.key_table.specs.Held.{AreGathered}
use Rattle.key_table.specs.KeyList.{AreSorted, Ascend, IsClear}
use Rattle.key_table.specs.Looked.{pair}
use Rattle.key_table.specs.Places.{comes_before, digest_at, has_same_digest, pair_at}
use Rattle.key_table.specs.Scan.{AreOrdered}
use Rattle.key_table.specs.Sorting.{AreAscending}
use Rattle.key_table.specs.declared.place.Place.{Place}
use Rattle.key_table.specs.declared.TheConstants.{MOST_VALUE}
use Rattle.key_table.proofs.EntryBytes.{entry-is}
use Rattle.key_table.proofs.PlaceOrder.{not_below, tied_same}

-- places that were moved and sorted are in order, each of them once
pub ordered_from_sort : (list : List Pair) (places : List ℕ) → IsPermutation (range_with_len 0 (length list)) places
    → IsSortedBy (comes_before list) places → AreOrdered list places
ordered_from_sort list places moved up =
    let n = length list in
    record {
      up = up;
      inside = All-permutation (λ k. k < n) (range_with_len 0 n) places moved
          (λ k d lt.
          let in_range : k < n = subst (λ m. k < m) (length-range_with_len 0 n) lt in
          omega (arith, get_or-range_with_len 0 n k d in_range, in_range));
      whole = λ k lt. Contains-permutation (range_with_len 0 n) places k moved
          (k, omega (arith, length-range_with_len 0 n, lt), get_or-range_with_len 0 n k k lt ∙ omega arith);
    }

-- where one of two texts of one length is below the other, what stands behind them doesn't change that
fronts_below : (a b x y : List ℕ) → length a ≡ length b → slice_cmp nat_cmp a b ≡ Less → slice_cmp nat_cmp (a ++ x) (b ++ y) ≡ Less
fronts_below [] [] x y long lt = absurd (true≢false (ap is_eq lt))
fronts_below [] (d ∷ b) x y long lt = absurd (omega (arith, long))
fronts_below (c ∷ a) [] x y long lt = absurd (omega (arith, long))
fronts_below (c ∷ a) (d ∷ b) x y long lt = by (nat_cmp c d) lt (λ less. fronts_below a b x y (omega (arith, long)) less)
  where
    by : (o : Ordering) → ordering_then o (slice_cmp nat_cmp a b) ≡ Less
        → (slice_cmp nat_cmp a b ≡ Less → slice_cmp nat_cmp (a ++ x) (b ++ y) ≡ Less)
        → ordering_then o (slice_cmp nat_cmp (a ++ x) (b ++ y)) ≡ Less
    by Less lt more = lt
    by Equal lt more = more lt
    by Greater lt more = lt

-- no more members are left than there were, where of neighbours that are alike one is kept
dedup_few : {X : Type 0} (E : X → X → Bool) (x : X) (xs : List X) → length (dedup E (x ∷ xs)) ≤ length xs + 1
dedup_few E x [] = omega arith
dedup_few E x (y ∷ ys) =
    cond_both (E y x) (dedup E (x ∷ ys)) (x ∷ dedup E (y ∷ ys)) (λ zs. length zs ≤ length (y ∷ ys) + 1)
    (λ e. omega (arith, dedup_few E x ys)) (λ e. omega (arith, dedup_few E y ys))

-- and of all members
kept_few : {X : Type 0} (E : X → X → Bool) (xs : List X) → length (dedup E xs) ≤ length xs
kept_few E [] = omega arith
kept_few E (x ∷ xs) = omega (arith, dedup_few E x xs)

module _ (list : List Pair) where
  -- digests of places, compared
  abbrev by_digest : ℕ → ℕ → Ordering
  by_digest = on (digest_at list) (slice_cmp nat_cmp)

  -- a text of a place that is below those of others, where its digest is
  below_texts : (f : Pair → List ℕ) → ((p q : Pair) → length p.digest ≡ length q.digest → slice_cmp nat_cmp p.digest q.digest ≡ Less → slice_cmp nat_cmp (f p) (f q) ≡ Less)
      → (size k : ℕ) (ks : List ℕ) → length (digest_at list k) ≡ size → All (λ j. length (digest_at list j) ≡ size) ks
      → AllByRecursion (λ j. by_digest k j ≡ Less) ks
      → AllByRecursion (λ z. slice_cmp nat_cmp (f (pair_at list k)) z ≡ Less) (map f (map (pair_at list) ks))
  below_texts f rises size k [] long each h = tt
  below_texts f rises size k (j ∷ ks) long each h = (
    rises (pair_at list k) (pair_at list j) (long ∙ sym (All-head (λ i. length (digest_at list i) ≡ size) j ks each)) h.0,
    below_texts f rises size k ks long (All-tail (λ i. length (digest_at list i) ≡ size) j ks each) h.1,
  )

  -- texts of places ascend as their digests do
  pub ascend_texts : (f : Pair → List ℕ) → ((p q : Pair) → length p.digest ≡ length q.digest → slice_cmp nat_cmp p.digest q.digest ≡ Less → slice_cmp nat_cmp (f p) (f q) ≡ Less)
      → (size : ℕ) (ks : List ℕ) → All (λ j. length (digest_at list j) ≡ size) ks
      → IsStrictlySortedBy by_digest ks → Ascend (map f (map (pair_at list) ks))
  unfolding IsStrictlySortedBy
  ascend_texts f rises size [] each h = tt
  ascend_texts f rises size (k ∷ ks) each h =
      let tail = All-tail (λ i. length (digest_at list i) ≡ size) k ks each in
      (below_texts f rises size k ks (All-head (λ i. length (digest_at list i) ≡ size) k ks each) tail h.0, ascend_texts f rises size ks tail h.1)

  -- sorted places are sorted by their digests
  by_digests : (places : List ℕ) → IsSortedBy (comes_before list) places → IsSorted by_digest places
  by_digests places up k d low high = not_below list (get_or places (k + 1) d) (get_or places k d) (up k d low high)

  -- the pair at a place of the list is one of the list
  has_pair : (k : ℕ) → k < length list → Contains list (pair_at list k)
  has_pair k lt = (k, lt, get_or_default list k (pair_at list k) (pair [] []) lt)

  -- the places that are kept
  abbrev kept : List ℕ → List ℕ
  kept places = dedup (has_same_digest list) places

  -- they are places of the list
  kept_inside : (places : List ℕ) → AreOrdered list places → (k : ℕ) → Contains (kept places) k → k < length list
  kept_inside places o k has =
      All-contains (λ j. j < length list) places k o.inside (Contains-from_dedup (has_same_digest list) places k has)

  -- a member at its own place
  member : (ks : List ℕ) (i d : ℕ) → i < length ks → Contains ks (get_or ks i d)
  member ks i d lt = (i, lt, get_or_default ks i (get_or ks i d) d lt)

  -- for each place of the list one is kept that has the same pair
  kept_pair : (places : List ℕ) → AreOrdered list places → IsClear list → (k : ℕ) → k < length list
      → Contains (map (pair_at list) (kept places)) (pair_at list k)
  kept_pair places o clear k lt =
      let any : Any (λ y. has_same_digest list k y ≡ true) (kept places) =
      Any-dedup (eq_by_cmp_equiv (on_total (digest_at list) nat_list_cmp_total)) places k (o.whole k lt) in
      let j = any.0 in
      let y = any.1 in
      let within = any.2 in
      let is = any.3 in
      let same : digest_at list k ≡ digest_at list y = tied_same (digest_at list k) (digest_at list y) any.4 in
      let inside = kept_inside places o y (j, within, is) in
      let one : pair_at list k ≡ pair_at list y = clear (pair_at list k) (pair_at list y) (has_pair k lt) (has_pair y inside) same in (
        j,
        subst (λ m. j < m) (sym (length-map (kept places) (pair_at list))) within,
        get_or-map (pair_at list) (kept places) j y (pair_at list k) within ∙ ap (pair_at list) is ∙ sym one,
      )

  -- the digests of kept places have one size
  kept_sizes : (size : ℕ) (places : List ℕ) → AreOrdered list places → All (λ p. length p.digest ≡ size) list
      → All (λ k. length (digest_at list k) ≡ size) (kept places)
  kept_sizes size places o sizes i d lt =
      sizes (get_or (kept places) i d) (pair [] []) (kept_inside places o (get_or (kept places) i d) (member (kept places) i d lt))

  -- the kept places rise by their digests
  kept_rise : (places : List ℕ) → AreOrdered list places → IsStrictlySortedBy by_digest (kept places)
  kept_rise places o = IsStrictlySortedBy-dedup (on_total (digest_at list) nat_list_cmp_total) (λ x y. refl) places (by_digests places o.up)

  -- their digests ascend
  pub kept_digests : (size : ℕ) (places : List ℕ) → AreOrdered list places → All (λ p. length p.digest ≡ size) list
      → Ascend (map (λ p. p.digest) (map (pair_at list) (kept places)))
  kept_digests size places o sizes =
      ascend_texts (λ p. p.digest) (λ p q long lt. lt) size (kept places) (kept_sizes size places o sizes) (kept_rise places o)

  -- the pairs at the kept places are those of a clear list, as they ascend
  pub kept_sorted : (size most : ℕ) (places : List ℕ) → AreOrdered list places → All (λ p. length p.digest ≡ size) list → IsClear list
      → AreSorted most list (map (pair_at list) (kept places))
  kept_sorted size most places o sizes clear = record {
    ascend = ascend_texts (entry most)
        (λ p q long lt.
        ap₂ (λ x y. slice_cmp nat_cmp x y) (entry-is most p) (entry-is most q)
        ∙ fronts_below p.digest q.digest (value_bytes most p.value) (value_bytes most q.value) long lt)
        size (kept places) (kept_sizes size places o sizes) (kept_rise places o);
    all = λ k d lt. subst (Contains (map (pair_at list) (kept places))) (get_or_default list k (pair [] []) d lt) (kept_pair places o clear k lt);
    only = λ i d lt.
        let within : i < length (kept places) = subst (λ m. i < m) (length-map (kept places) (pair_at list)) lt in
        let k = get_or (kept places) i 0 in
        subst (Contains list) (sym (get_or-map (pair_at list) (kept places) i 0 d within)) (has_pair k (kept_inside places o k (member (kept places) i 0 within)));
  }

  -- they ascend by their digests, and have the sizes of the list
  pub kept_ascending : (size most : ℕ) (order : List Place) (places : List ℕ) → AreGathered (record { size = size; pairs = list }) order → AreOrdered list places
      → length places ≡ length list → All (λ p. length p.value ≤ most) list → IsClear list → most ≤ MOST_VALUE
      → AreAscending (record { size = size; most = most; pairs = map (pair_at list) (kept places) })
  kept_ascending size most order places g o whole values clear few =
      let own = map (pair_at list) (kept places) in
      let among = (kept_sorted size most places o g.sizes clear).only in
      record {
        least = g.least;
        most_size = g.most;
        most_value = few;
        few = omega (arith, length-map (kept places) (pair_at list), kept_few (has_same_digest list) places, whole, g.few);
        sizes = All-weaker (Contains list) (HasSizes size most)
            (λ p has. record {
              digest_size = All-contains (λ p. length p.digest ≡ size) list p g.sizes has;
              few = All-contains (λ p. length p.value ≤ most) list p values has;
            })
            own among;
        bytes = All-weaker (Contains list) (λ p. AreBytes p.digest) (λ p has. All-contains (λ p. AreBytes p.digest) list p g.bytes has) own among;
        ascend = kept_digests size places o g.sizes;
      }
