-- Pairs that ascend by their entries are the same, whoever sorts them.
use Rattle.std.proofs.Common.{◌≡◌, ◌∙◌, inl, inr, ℕ, List, [], ◌∷◌, map, get_or, refl, sym, ap, ap₂, subst, Ordering, Less, Greater, nat_cmp}
use Rattle.std.specs.Prelude.{All, Contains}
use Rattle.std.specs.List.{AllByRecursion}
use Rattle.std.specs.List.Sorted.{IsStrictlySortedBy}
use Rattle.std.specs.Ordering.{ordering_reverse}
use Rattle.std.specs.Cmp.Lexicographic.{slice_cmp}
use Rattle.std.proofs.lemmas.Cmp.{nat_list_cmp_total}
use Rattle.std.proofs.lemmas.List.Elements.{All-contains, All-head, All-tail, Contains-get_or}
use Rattle.key_table.specs.Entry.{Pair, entry}
use Rattle.key_table.specs.KeyList.{AreSorted, Ascend}
use Rattle.key_table.proofs.Members.{Contains-cases, Contains-none}
use Rattle.key_table.proofs.Order.{Ascend-rest}

-- a text is below another
abbrev IsBelow : List ℕ → List ℕ → Type 0
IsBelow one other = slice_cmp nat_cmp one other ≡ Less

-- none is below itself
not_below_itself : (t : List ℕ) → IsBelow t t → ⊥
not_below_itself t lt =
    let both : ◌≡◌ {A = Ordering} Less Greater = sym lt ∙ nat_list_cmp_total.antisymm t t ∙ ap ordering_reverse lt in
    cc

module _ {X : Type 0} (f : X → List ℕ) where
  -- what is below all is below each
  below_member : (t : List ℕ) (xs : List X) (y : X) → AllByRecursion (IsBelow t) (map f xs) → Contains xs y → IsBelow t (f y)
  below_member t [] y below there = absurd (Contains-none y there)
  below_member t (x ∷ xs) y below there = elim (Contains-cases x y xs there) [
    | inl is ↦ subst (λ (z : X). IsBelow t (f z)) is below.0
    | inr behind ↦ below_member t xs y below.1 behind
  ]

  -- of two lists that ascend, each of which has the first of the other, the first ones are one
  same_first : (x y : X) (xs ys : List X) → Ascend (map f (x ∷ xs)) → Ascend (map f (y ∷ ys)) → Contains (y ∷ ys) x → Contains (x ∷ xs) y → x ≡ y
  unfolding IsStrictlySortedBy
  same_first x y xs ys up other here there = elim (Contains-cases y x ys here) [
    | inl same ↦ sym same
    | inr later ↦ elim (Contains-cases x y xs there) [
      | inl same ↦ same
      | inr behind ↦
          absurd (not_below_itself (f x) (nat_list_cmp_total.trans (f x) (f y) (f x) (below_member (f x) xs y up.0 behind) (below_member (f y) ys x other.0 later)))
    ]
  ]

  -- and the rest of one is in the rest of the other
  rest_there : (x y : X) (xs ys : List X) → x ≡ y → Ascend (map f (x ∷ xs)) → All (Contains (y ∷ ys)) (x ∷ xs) → All (Contains ys) xs
  unfolding IsStrictlySortedBy
  rest_there x y xs ys same up all = λ k d lt.
      let z = get_or xs k d in
      let below : IsBelow (f x) (f z) = below_member (f x) xs z up.0 (Contains-get_or xs k d lt) in
      elim (Contains-cases y z ys (All-tail (Contains (y ∷ ys)) x xs all k d lt)) [
        | inl is ↦ absurd (not_below_itself (f x) (subst (λ (w : X). IsBelow (f x) (f w)) (sym (same ∙ is)) below))
        | inr behind ↦ behind
      ]

  -- so two lists that ascend and have the same members are one
  same_members : (xs ys : List X) → Ascend (map f xs) → Ascend (map f ys) → All (Contains ys) xs → All (Contains xs) ys → xs ≡ ys
  same_members [] [] up other all back = refl
  same_members [] (y ∷ ys) up other all back = absurd (Contains-none y (All-head (Contains []) y ys back))
  same_members (x ∷ xs) [] up other all back = absurd (Contains-none x (All-head (Contains []) x xs all))
  same_members (x ∷ xs) (y ∷ ys) up other all back =
      let first = same_first x y xs ys up other (All-head (Contains (y ∷ ys)) x xs all) (All-head (Contains (x ∷ xs)) y ys back) in
      let rest = same_members xs ys (Ascend-rest (f x) (map f xs) up) (Ascend-rest (f y) (map f ys) other)
      (rest_there x y xs ys first up all) (rest_there y x ys xs (sym first) other back) in
      ap₂ (λ z zs. z ∷ zs) first rest

-- the pairs of a list, as they ascend, are the same each time
pub sorted_once : (most : ℕ) (list ps qs : List Pair) → AreSorted most list ps → AreSorted most list qs → ps ≡ qs
sorted_once most list ps qs one other =
    same_members (entry most) ps qs one.ascend other.ascend
    (λ k d lt. All-contains (Contains qs) list (get_or ps k d) other.all (one.only k d lt))
    (λ k d lt. All-contains (Contains ps) list (get_or qs k d) one.all (other.only k d lt))
