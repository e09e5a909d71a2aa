-- Lists that strictly ascend by a total order: what a binary search finds there, and what an insert at that place does.
use Rattle.std.proofs.Common.{◌≡◌, ℕ, ◌+◌, ◌-◌, ◌<◌, ◌≤◌, ◌⊎◌, ◌↔◌, zero, suc, List, [], ◌∷◌, ◌++◌, length, map, take, drop, get_or, Bool, true, false, cond, sym, ap, ap₂, subst, ◌∙◌, inl, inr, arith}
use Rattle.std.specs.Prelude.{Contains}
use Rattle.std.specs.declared.cmp.Ordering.{Ordering}
use Rattle.std.specs.declared.cmp.Ordering.TheVariants.{Less, Equal, Greater}
use Rattle.std.specs.Cmp.{IsTotalOrder}
use Rattle.std.specs.Cmp.Lexicographic.{slice_cmp, texts_ties, bytes_decides}
use Rattle.std.specs.List.{AllWithin, HoldsAt, insert}
use Rattle.std.specs.List.Sorted.{IsStrictlySortedBy, IsNonDecreasingBy}
use Rattle.std.specs.Ordering.{nat_cmp, ordering_reverse, ordering_index, is_lt, is_eq}
use Rattle.std.proofs.lemmas.Bool.{cases_lt}
use Rattle.std.proofs.lemmas.List.{length-map, get_or-map, map-append, take-map, drop-map}
use Rattle.std.proofs.lemmas.List.Edits.{length-insert, get_or-insert_below, get_or-insert_at, get_or-insert_above}
use Rattle.std.proofs.lemmas.List.Elements.{Contains-append_right, Contains-append_cases}
use Rattle.std.proofs.lemmas.List.Sorted.{searchable_from_sorted, IsPermutation-insert, IsPermutation-sym, Contains-permutation}
use Rattle.std.proofs.lemmas.Map.Keys.{Less-from_sorted, sorted_from_all_adjacent}

-- byte strings that compare as equal are the same
pub same_bytes : (xs ys : List ℕ) → slice_cmp nat_cmp xs ys ≡ Equal → xs ≡ ys
same_bytes xs ys e = (bytes_decides xs ys).0 (texts_ties xs ys ∙ ap is_eq e)

module _ {X Y : Type 0} (f : X → Y) where
  -- an insert among elements is an insert among their keys
  pub map-insert : (xs : List X) (i : ℕ) (x : X) → map f (insert xs i x) ≡ insert (map f xs) i (f x)
  map-insert xs i x = map-append f (take i xs) (x ∷ drop i xs) ∙ ap₂ (λ front back. front ++ f x ∷ back) (sym (take-map f i xs)) (sym (drop-map f i xs))

  -- what holds of the keys of elements holds within the list of the keys
  pub AllWithin-map : (P : Y → Type 0) (xs : List X) (low high : ℕ) → high ≤ length xs → AllWithin (λ x. P (f x)) xs low high → AllWithin P (map f xs) low high
  AllWithin-map P [] low high le h = λ k d ge lt. absurd (omega arith)
  AllWithin-map P (x ∷ xs) low high le h = λ k d ge lt. subst P (sym (get_or-map f (x ∷ xs) k x d (omega arith))) (h k x ge lt)

  -- a key that an element has is among the keys
  pub Contains-map : (y : Y) (xs : List X) (i : ℕ) → i < length xs → HoldsAt (λ x. f x ≡ y) xs i → Contains (map f xs) y
  Contains-map y [] i lt h = absurd (omega arith)
  Contains-map y (x ∷ xs) i lt h = (i, omega (arith, length-map (x ∷ xs) f), get_or-map f (x ∷ xs) i x y lt ∙ h x)

-- the elements after an insert are those before it, and the new one
pub Contains-insert : {X : Type 0} (xs : List X) (i : ℕ) (x b : X) → Contains (insert xs i x) b ↔ (Contains xs b ⊎ (b ≡ x))
Contains-insert xs i x b =
    let moved = IsPermutation-insert xs i x in (
      λ has. elim (Contains-append_cases (x ∷ []) xs b (Contains-permutation _ _ b (IsPermutation-sym _ _ moved) has)) [
        | inl new ↦ inr (sym (alone x b new))
        | inr old ↦ inl old
      ],
      λ either. Contains-permutation _ _ b moved (elim either [
        | inl old ↦ Contains-append_right (x ∷ []) xs b old
        | inr new ↦ (0, omega arith, sym new)
      ]),
    )
  where
    alone : {X : Type 0} (x b : X) → Contains (x ∷ []) b → x ≡ b
    alone x b (zero, lt, is) = is
    alone x b (suc k, lt, is) = absurd (omega arith)

module _ {K : Type 0} {R : K → K → Ordering} (o : IsTotalOrder R) where
  -- the comparisons with x rise along elements whose keys ascend, as a binary search asks
  pub comparisons_rise : {X : Type 0} (f : X → K) (xs : List X) (x : K) → IsStrictlySortedBy R (map f xs) → IsNonDecreasingBy (λ y. ordering_index (R (f y) x)) xs
  comparisons_rise f xs x h =
      searchable_from_sorted o f xs x (λ k d _ lt.
      let here = get_or-map f xs k d (f d) (omega arith) in
      let next = get_or-map f xs (k + 1) d (f d) lt in
      let rises = Less-from_sorted R (map f xs) k (k + 1) (f d) h (omega arith) (omega (arith, length-map xs f)) in
      ap is_lt (o.antisymm _ _ ∙ ap ordering_reverse (sym (ap₂ R here next) ∙ rises)))

  -- an insert between what is less and what is greater keeps the order
  pub sorted_insert : (ks : List K) (x : K) (i : ℕ) → IsStrictlySortedBy R ks → i ≤ length ks
      → AllWithin (λ y. R y x ≡ Less) ks 0 i → AllWithin (λ y. R y x ≡ Greater) ks i (length ks)
      → IsStrictlySortedBy R (insert ks i x)
  sorted_insert ks x i h le less greater =
      let new = insert ks i x in
      let long = length-insert ks i x le in
      let below : (k : ℕ) → k < i → get_or new k x ≡ get_or ks k x = λ k lt. get_or-insert_below ks i x x k lt le in
      let at : get_or new i x ≡ x = get_or-insert_at ks i x x le in
      let above : (k : ℕ) → i ≤ k → get_or new (k + 1) x ≡ get_or ks k x = λ k ge. get_or-insert_above ks i x x k ge le in
      sorted_from_all_adjacent o new x (λ k lt.
      elim (cases_lt k i) [
        | inl before ↦
            elim (cases_lt (k + 1) i) [
              | inl both ↦ ap₂ R (below k before) (below (k + 1) both) ∙ Less-from_sorted R ks k (k + 1) x h (omega arith) (omega arith)
              | inr last ↦
                  let e : i ≡ k + 1 = omega arith in
                  ap₂ R (below k before) (ap (λ j. get_or new j x) (sym e) ∙ at) ∙ less k x (omega arith) before
            ]
        | inr after ↦
            elim (cases_lt i k) [
              | inl past ↦
                  let e : k ≡ k - 1 + 1 = omega arith in
                  ap₂ R (ap (λ j. get_or new j x) e ∙ above (k - 1) (omega arith)) (above k after)
                  ∙ Less-from_sorted R ks (k - 1) k x h (omega arith) (omega arith)
              | inr first ↦
                  let e : k ≡ i = omega arith in
                  ap₂ R (ap (λ j. get_or new j x) e ∙ at) (above k after)
                  ∙ o.antisymm _ _ ∙ ap ordering_reverse (greater k x after (omega arith))
            ]
      ])

  -- the same for elements by their keys, where the insert may have failed
  pub sorted_after : {X : Type 0} (f : X → K) (xs new : List X) (x : X) (i : ℕ) (done : Bool) → new ≡ cond done (insert xs i x) xs
      → IsStrictlySortedBy R (map f xs) → i ≤ length xs → AllWithin (λ y. R (f y) (f x) ≡ Less) xs 0 i
      → AllWithin (λ y. R (f y) (f x) ≡ Greater) xs i (length xs) → IsStrictlySortedBy R (map f new)
  sorted_after f xs new x i done e h le less greater =
      let long : length (map f xs) ≡ length xs = length-map xs f in
      let after =
      AllWithin-map f (λ y. R y (f x) ≡ Greater) xs i (length xs) (omega arith) greater in
      let inserted = sorted_insert (map f xs) (f x) i h (omega arith) (AllWithin-map f (λ y. R y (f x) ≡ Less) xs 0 i le less)
      (subst (AllWithin (λ y. R y (f x) ≡ Greater) (map f xs) i) (sym long) after) in
      subst (λ l. IsStrictlySortedBy R (map f l)) (sym e)
      (elim done as (λ d. IsStrictlySortedBy R (map f (cond d (insert xs i x) xs))) [
        | true ↦ subst (IsStrictlySortedBy R) (sym (map-insert f xs i x)) inserted
        | false ↦ h
      ])
