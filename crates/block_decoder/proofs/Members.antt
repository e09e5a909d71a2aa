-- Lists that strictly ascend by a total order, by their members: two with the same members are one, and one more
-- member may be put in.
use Rattle.std.proofs.Common.{◌≡◌, zero, suc, ◌⊎◌, ◌↔◌, List, [], ◌∷◌, get_or, All, Contains, refl, sym, ap, ap₂, subst, ◌∙◌, inl, inr, arith}
use Rattle.std.specs.declared.cmp.Ordering.{Ordering}
use Rattle.std.specs.declared.cmp.Ordering.TheVariants.{Less, Equal, Greater}
use Rattle.std.specs.Cmp.{IsTotalOrder}
use Rattle.std.specs.List.Sorted.{IsStrictlySortedBy}
use Rattle.std.specs.Ordering.{ordering_reverse}
use Rattle.std.proofs.lemmas.List.Elements.{All-contains, All-nil, All-cons, Contains-get_or, recursion_from_All}
use Rattle.std.proofs.lemmas.Map.Keys.{sorted_tail}
use Rattle.std.proofs.lemmas.Map.Lookups.{CmpEqualImpliesEq}
use Rattle.std.proofs.lemmas.Map.Views.{All-after_first}

module _ {K : Type 0} where
  -- the first member, and the members behind it
  first : (x : K) (xs : List K) → Contains (x ∷ xs) x
  first x xs = (0, omega arith, refl)

  -- a member behind the first
  later : (x : K) (xs : List K) (b : K) → Contains xs b → Contains (x ∷ xs) b
  later x xs b (i, l, is) = (suc i, omega arith, is)

  -- a member is the first or behind it
  pub first_or_later : (x : K) (xs : List K) (b : K) → Contains (x ∷ xs) b → (x ≡ b) ⊎ Contains xs b
  first_or_later x xs b (zero, l, is) = inl is
  first_or_later x xs b (suc i, l, is) = inr (i, omega arith, is)

module _ {K : Type 0} {R : K → K → Ordering} (o : IsTotalOrder R) where
  -- nothing comes before itself
  pub not_before_itself : (x : K) → ¬ (R x x ≡ Less)
  not_before_itself x e =
      let turned : ◌≡◌ {A = Ordering} Less Greater = sym e ∙ o.antisymm x x ∙ ap ordering_reverse e in
      cc

  -- the first comes before the others
  first_before : (x : K) (xs : List K) (b : K) → IsStrictlySortedBy R (x ∷ xs) → Contains xs b → R x b ≡ Less
  first_before x xs b ascending c = All-contains (λ y. R x y ≡ Less) xs b (All-after_first R x xs ascending) c

  -- what comes before all others may stand in front of them
  sorted_cons : (x : K) (xs : List K) → All (λ y. R x y ≡ Less) xs → IsStrictlySortedBy R xs → IsStrictlySortedBy R (x ∷ xs)
  unfolding IsStrictlySortedBy
  sorted_cons x xs before ascending = (recursion_from_All (λ y. R x y ≡ Less) xs before, ascending)

  -- no elements are in order
  pub sorted_nil : IsStrictlySortedBy R []
  unfolding IsStrictlySortedBy
  sorted_nil = tt

  -- ---- two lists with the same members

  -- two that have each other as members begin alike
  first_same : (x y : K) (xs ys : List K) → IsStrictlySortedBy R (x ∷ xs) → IsStrictlySortedBy R (y ∷ ys)
      → Contains (y ∷ ys) x → Contains (x ∷ xs) y → x ≡ y
  first_same x y xs ys p q in_ys in_xs =
      elim (first_or_later y ys x in_ys) [
        | inl is ↦ sym is
        | inr behind_y ↦ elim (first_or_later x xs y in_xs) [
          | inl is ↦ is
          | inr behind_x ↦ absurd (not_before_itself x (o.trans x y x (first_before x xs y p behind_x) (first_before y ys x q behind_y)))
        ]
      ]

  -- a member behind the first of one is behind that of the other
  still_later : (x y : K) (xs ys : List K) → IsStrictlySortedBy R (x ∷ xs) → x ≡ y → (b : K) → Contains xs b → Contains (y ∷ ys) b → Contains ys b
  still_later x y xs ys p e b behind c =
      elim (first_or_later y ys b c) [
        | inl is ↦ absurd (not_before_itself x (subst (λ z. R x z ≡ Less) (sym (e ∙ is)) (first_before x xs b p behind)))
        | inr there ↦ there
      ]

  -- lists in order that have the same members are equal
  pub same_members : (xs ys : List K) → IsStrictlySortedBy R xs → IsStrictlySortedBy R ys → ((b : K) → Contains xs b ↔ Contains ys b) → xs ≡ ys
  same_members [] [] p q same = refl
  same_members [] (y ∷ ys) p q same = let (i, l, is) = (same y).1 (first y ys) in absurd (omega (arith, l))
  same_members (x ∷ xs) [] p q same = let (i, l, is) = (same x).0 (first x xs) in absurd (omega (arith, l))
  same_members (x ∷ xs) (y ∷ ys) p q same =
      let e = first_same x y xs ys p q ((same x).0 (first x xs)) ((same y).1 (first y ys)) in
      ap₂ (λ z zs. z ∷ zs) e (same_members xs ys (sorted_tail R x xs p) (sorted_tail R y ys q) (λ b. (
        λ c. still_later x y xs ys p e b c ((same b).0 (later x xs b c)),
        λ c. still_later y x ys xs q (sym e) b c ((same b).1 (later y ys b c)),
      )))

  -- ---- one more member

  -- a list in order that has the members of xs, and x
  pub record HasMember (x : K) (xs : List K) : Type 0 where
    pub new : List K
    pub ascending : IsStrictlySortedBy R new
    pub members : (b : K) → Contains new b ↔ (Contains xs b ⊎ (b ≡ x))

  -- in front
  member_in_front : (x : K) (xs : List K) → IsStrictlySortedBy R xs → All (λ y. R x y ≡ Less) xs → HasMember x xs
  member_in_front x xs p before = record {
    new = x ∷ xs;
    ascending = sorted_cons x xs before p;
    members = λ b. (
      λ c. elim (first_or_later x xs b c) [ inl is ↦ inr (sym is) | inr there ↦ inl there ],
      λ either. elim either [ inl there ↦ later x xs b there | inr is ↦ subst (Contains (x ∷ xs)) (sym is) (first x xs) ],
    );
  }

  -- the one that is there
  member_there : (x y : K) (ys : List K) → IsStrictlySortedBy R (y ∷ ys) → y ≡ x → HasMember x (y ∷ ys)
  member_there x y ys p same = record {
    new = y ∷ ys;
    ascending = p;
    members = λ b. (inl, λ either. elim either [ inl c ↦ c | inr is ↦ subst (Contains (y ∷ ys)) (same ∙ sym is) (first y ys) ]);
  }

  -- behind the first
  member_behind : (x y : K) (ys : List K) → IsStrictlySortedBy R (y ∷ ys) → R y x ≡ Less → HasMember x ys → HasMember x (y ∷ ys)
  member_behind x y ys p before rest = record {
    new = y ∷ rest.new;
    ascending = sorted_cons y rest.new (λ i d l.
        let z = get_or rest.new i d in
        elim ((rest.members z).0 (Contains-get_or rest.new i d l)) [
          | inl old ↦ first_before y ys z p old
          | inr is ↦ subst (λ w. R y w ≡ Less) (sym is) before
        ]) rest.ascending;
    members = λ b. (
      λ c. elim (first_or_later y rest.new b c) [
        | inl is ↦ inl (subst (Contains (y ∷ ys)) is (first y ys))
        | inr there ↦ elim ((rest.members b).0 there) [ inl old ↦ inl (later y ys b old) | inr is ↦ inr is ]
      ],
      λ either. elim either [
        | inl c ↦ elim (first_or_later y ys b c) [
          | inl is ↦ subst (Contains (y ∷ rest.new)) is (first y rest.new)
          | inr there ↦ later y rest.new b ((rest.members b).1 (inl there))
        ]
        | inr is ↦ later y rest.new b ((rest.members b).1 (inr is))
      ],
    );
  }

  -- its place is told by how the first compares with it
  member_placed : CmpEqualImpliesEq R → (x y : K) (ys : List K) (order : Ordering) → R y x ≡ order → IsStrictlySortedBy R (y ∷ ys) → HasMember x ys → HasMember x (y ∷ ys)
  member_placed exact x y ys Less e p rest = member_behind x y ys p e rest
  member_placed exact x y ys Equal e p rest = member_there x y ys p (exact y x e)
  member_placed exact x y ys Greater e p rest =
      let before : R x y ≡ Less = o.antisymm x y ∙ ap ordering_reverse e in
      member_in_front x (y ∷ ys) p (All-cons (λ z. R x z ≡ Less) y ys before (λ i d l.
      o.trans x y (get_or ys i d) before (first_before y ys (get_or ys i d) p (Contains-get_or ys i d l))))

  -- one more member may be put in
  pub with_member : CmpEqualImpliesEq R → (x : K) (xs : List K) → IsStrictlySortedBy R xs → HasMember x xs
  with_member exact x [] p = member_in_front x [] p (All-nil (λ y. R x y ≡ Less))
  with_member exact x (y ∷ ys) p = member_placed exact x y ys (R y x) refl p (with_member exact x ys (sorted_tail R y ys p))
