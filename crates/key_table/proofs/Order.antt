-- Lists that ascend.
use Rattle.std.proofs.Common.{◌≡◌, ◌≢◌, ℕ, ◌<◌, Bool, true, false, cond, List, [], ◌∷◌, ◌++◌, length, map, filter, All, refl, ap₂, arith, Ordering, Less, Equal, Greater, nat_cmp}
use Rattle.std.specs.List.{AllByRecursion}
use Rattle.std.specs.List.Sorted.{IsStrictlySortedBy}
use Rattle.std.specs.Ordering.{ordering_then}
use Rattle.std.specs.Cmp.Lexicographic.{slice_cmp}
use Rattle.std.proofs.lemmas.Cmp.{nat_list_cmp_total, ranked}
use Rattle.key_table.specs.KeyList.{Ascend}

-- what is below a text is below each that follows it
below_rest : (x y : List ℕ) (ys : List (List ℕ)) → slice_cmp nat_cmp x y ≡ Less
    → AllByRecursion (λ z. slice_cmp nat_cmp y z ≡ Less) ys → AllByRecursion (λ z. slice_cmp nat_cmp x z ≡ Less) ys
below_rest x y [] lt h = h
below_rest x y (z ∷ zs) lt h = (nat_list_cmp_total.trans x y z lt h.0, below_rest x y zs lt h.1)

-- one more text before the first
pub Ascend-more : (x y : List ℕ) (ys : List (List ℕ)) → slice_cmp nat_cmp x y ≡ Less → Ascend (y ∷ ys) → Ascend (x ∷ y ∷ ys)
unfolding IsStrictlySortedBy
Ascend-more x y ys lt h = ((lt, below_rest x y ys lt h.0), h)

-- the first is below the second
pub Ascend-first : (x y : List ℕ) (ys : List (List ℕ)) → Ascend (x ∷ y ∷ ys) → slice_cmp nat_cmp x y ≡ Less
unfolding IsStrictlySortedBy
Ascend-first x y ys h = h.0.0

-- what follows the first
pub Ascend-rest : (x : List ℕ) (ys : List (List ℕ)) → Ascend (x ∷ ys) → Ascend ys
unfolding IsStrictlySortedBy
Ascend-rest x ys h = h.1

-- one text alone
pub Ascend-one : (x : List ℕ) → Ascend (x ∷ [])
unfolding IsStrictlySortedBy
Ascend-one x = (tt, tt)

-- the empty text is before others
pub Ascend-empty : (ys : List (List ℕ)) → All (λ y. 0 < length y) ys → Ascend ys → Ascend ([] ∷ ys)
unfolding IsStrictlySortedBy
Ascend-empty [] some h = (tt, tt)
Ascend-empty ([] ∷ ys) some h = absurd (omega (arith, some 0 [] (omega arith)))
Ascend-empty ((b ∷ bs) ∷ ys) some h = Ascend-more [] (b ∷ bs) ys refl h

-- where two texts of one length differ, what stands behind them doesn't say which is below
pub fronts_decide : (a b x y : List ℕ) → length a ≡ length b → (a ≢ b) → slice_cmp nat_cmp (a ++ x) (b ++ y) ≡ Less
    → slice_cmp nat_cmp a b ≡ Less
fronts_decide [] [] x y long differ lt = absurd (differ refl)
fronts_decide [] (d ∷ b) x y long differ lt = absurd (omega (arith, long))
fronts_decide (c ∷ a) [] x y long differ lt = absurd (omega (arith, long))
fronts_decide (c ∷ a) (d ∷ b) x y long differ lt =
    by (nat_cmp c d) refl lt (λ same_byte lt. fronts_decide a b x y (omega (arith, long)) (λ same. differ (ap₂ (λ e es. e ∷ es) same_byte same)) lt)
  where
    by : (o : Ordering) → o ≡ nat_cmp c d → ordering_then o (slice_cmp nat_cmp (a ++ x) (b ++ y)) ≡ Less
        → (c ≡ d → slice_cmp nat_cmp (a ++ x) (b ++ y) ≡ Less → slice_cmp nat_cmp a b ≡ Less)
        → ordering_then o (slice_cmp nat_cmp a b) ≡ Less
    by Less is lt more = lt
    by Equal is lt more = more (ranked c d Equal is) lt
    by Greater is lt more = lt

module _ {X : Type 0} (f : X → List ℕ) where
  -- what is below one more text and those that are kept is below what is kept
  below_cond : (b : Bool) (x : List ℕ) (y : X) (ys : List X) → slice_cmp nat_cmp x (f y) ≡ Less
      → AllByRecursion (λ z. slice_cmp nat_cmp x z ≡ Less) (map f ys) → AllByRecursion (λ z. slice_cmp nat_cmp x z ≡ Less) (map f (cond b (y ∷ ys) ys))
  below_cond true x y ys lt h = (lt, h)
  below_cond false x y ys lt h = h

  -- what is below all is below those that are kept
  below_kept : (p : X → Bool) (x : List ℕ) (ys : List X) → AllByRecursion (λ z. slice_cmp nat_cmp x z ≡ Less) (map f ys)
      → AllByRecursion (λ z. slice_cmp nat_cmp x z ≡ Less) (map f (filter p ys))
  below_kept p x [] h = h
  below_kept p x (y ∷ ys) h = below_cond (p y) x y (filter p ys) h.0 (below_kept p x ys h.1)

  -- one text below those that are kept, kept or not
  Ascend-cond : (b : Bool) (y : X) (ys : List X) → AllByRecursion (λ z. slice_cmp nat_cmp (f y) z ≡ Less) (map f ys) → Ascend (map f ys)
      → Ascend (map f (cond b (y ∷ ys) ys))
  unfolding IsStrictlySortedBy
  Ascend-cond true y ys below h = (below, h)
  Ascend-cond false y ys below h = h

  -- those that are kept ascend
  pub Ascend-kept : (p : X → Bool) (xs : List X) → Ascend (map f xs) → Ascend (map f (filter p xs))
  unfolding IsStrictlySortedBy
  Ascend-kept p [] h = h
  Ascend-kept p (x ∷ xs) h = Ascend-cond (p x) x (filter p xs) (below_kept p (f x) xs h.0) (Ascend-kept p xs h.1)
