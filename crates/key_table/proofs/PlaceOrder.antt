-- Places in the order of their digests.
use Rattle.std.proofs.Common.{◌≡◌, ℕ, ◌<◌, ◌≤◌, true, false, List, [], ◌∷◌, refl, sym, ap, ap₂, ◌∙◌, arith, true≢false, Ordering, Less, Equal, Greater, nat_cmp, is_lt}
use Rattle.std.specs.Cmp.{IsStrictWeakOrder}
use Rattle.std.specs.Ordering.{MatchOrdering, is_eq, is_gt, ordering_reverse, ordering_then}
use Rattle.std.specs.Cmp.Lexicographic.{slice_cmp}
use Rattle.std.proofs.lemmas.Cmp.{nat_list_cmp_total, nat_cmp_total, on_total, then_total, ranked, tied_itself}
use Rattle.std.proofs.lemmas.List.Sorted.{ranks_by}
use Rattle.key_table.specs.Entry.{Pair}
use Rattle.key_table.specs.Places.{comes_before, digest_at, place_cmp}

-- texts that tie are one
pub same_text : (xs ys : List ℕ) → slice_cmp nat_cmp xs ys ≡ Equal → xs ≡ ys
same_text [] [] e = refl
same_text [] (y ∷ ys) e = absurd (true≢false (ap is_lt e))
same_text (x ∷ xs) [] e = absurd (true≢false (ap is_gt e))
same_text (x ∷ xs) (y ∷ ys) e = by (nat_cmp x y) refl e (λ rest. same_text xs ys rest)
  where
    by : (o : Ordering) → o ≡ nat_cmp x y → ordering_then o (slice_cmp nat_cmp xs ys) ≡ Equal → (slice_cmp nat_cmp xs ys ≡ Equal → xs ≡ ys) → (x ∷ xs) ≡ (y ∷ ys)
    by Less is e more = absurd (true≢false (ap is_lt e))
    by Equal is e more = ap₂ (λ z zs. z ∷ zs) (ranked x y Equal is) (more e)
    by Greater is e more = absurd (true≢false (ap is_gt e))

-- texts that tie by a test are one
pub tied_same : (xs ys : List ℕ) → is_eq (slice_cmp nat_cmp xs ys) ≡ true → xs ≡ ys
tied_same xs ys e = same_text xs ys (by (slice_cmp nat_cmp xs ys) e)
  where
    by : (o : Ordering) → is_eq o ≡ true → o ≡ Equal
    by Less e = absurd (true≢false (sym e))
    by Equal e = refl
    by Greater e = absurd (true≢false (sym e))

-- a text ties with itself
pub same_ties : (xs ys : List ℕ) → xs ≡ ys → is_eq (slice_cmp nat_cmp xs ys) ≡ true
same_ties xs ys e = ap is_eq (ap (slice_cmp nat_cmp xs) (sym e) ∙ tied_itself nat_list_cmp_total xs)

-- texts of which neither is below the other are one
pub neither_below : (x y : List ℕ) → is_lt (slice_cmp nat_cmp x y) ≡ false → is_lt (slice_cmp nat_cmp y x) ≡ false → x ≡ y
neither_below x y a b = same_text x y (by (slice_cmp nat_cmp x y) (slice_cmp nat_cmp y x) (nat_list_cmp_total.antisymm y x) a b)
  where
    by : (o p : Ordering) → p ≡ ordering_reverse o → is_lt o ≡ false → is_lt p ≡ false → o ≡ Equal
    by Less p e a b = absurd (true≢false a)
    by Equal p e a b = refl
    by Greater p e a b = absurd (true≢false (sym (ap is_lt e) ∙ b))

-- places are in an order
pub places_rank : (list : List Pair) → IsStrictWeakOrder (comes_before list)
unfolding place_cmp
places_rank list = ranks_by (then_total (on_total (digest_at list) nat_list_cmp_total) nat_cmp_total) (λ (k : ℕ). k)

-- what isn't before isn't below by the first of two comparisons
first_decides : (o r : Ordering) → is_lt (ordering_then o r) ≡ false → is_lt o ≡ false
first_decides Less r h = h
first_decides Equal r h = refl
first_decides Greater r h = refl

-- a place that doesn't come before another has no lesser digest
pub not_below : (list : List Pair) (one other : ℕ) → comes_before list one other ≡ false → is_lt (slice_cmp nat_cmp (digest_at list one) (digest_at list other)) ≡ false
unfolding place_cmp
not_below list one other h = first_decides (slice_cmp nat_cmp (digest_at list one) (digest_at list other)) (nat_cmp one other) h

-- a number that isn't below another is at least that
not_less : (a b : ℕ) (o : Ordering) → MatchOrdering o (a < b) (a ≡ b) (b < a) → is_lt o ≡ false → b ≤ a
not_less a b Less m h = absurd (true≢false h)
not_less a b Equal m h = omega (arith, m)
not_less a b Greater m h = omega (arith, m)

-- and with the same digest it isn't before it as it was given
pub not_earlier : (list : List Pair) (one other : ℕ) → comes_before list one other ≡ false → digest_at list one ≡ digest_at list other → other ≤ one
unfolding place_cmp
not_earlier list one other h same =
    let tied : slice_cmp nat_cmp (digest_at list one) (digest_at list other) ≡ Equal =
    ap (slice_cmp nat_cmp (digest_at list one)) (sym same) ∙ tied_itself nat_list_cmp_total (digest_at list one) in
    not_less one other (nat_cmp one other) (ranked one other (nat_cmp one other) refl)
    (sym (ap (λ o. is_lt (ordering_then o (nat_cmp one other))) tied) ∙ h)
