-- Lists of byte lists in strictly ascending order, gathered by their first bytes.
use Rattle.std.proofs.Common.{◌≡◌, ◌↔◌, ℕ, ◌+◌, ◌<◌, ◌≤◌, List, [], ◌∷◌, ◌++◌, length, map, get_or, Contains, refl, sym, ap, ap₂, subst, ◌∙◌, inl, inr, arith, append_assoc, append-nil, nat_cmp}
use Rattle.std.specs.Cmp.Lexicographic.{slice_cmp}
use Rattle.std.specs.List.Sorted.{IsStrictlySortedBy}
use Rattle.std.specs.Ordering.{ordering_then}
use Rattle.std.specs.declared.cmp.Ordering.TheVariants.{Less, Equal}
use Rattle.std.proofs.lemmas.Bool.{cases_lt}
use Rattle.std.proofs.lemmas.Bool.Decides.{nat_tests}
use Rattle.std.proofs.lemmas.List.{map-append, map-id, length-map, get_or-map, nil_from_length}
use Rattle.std.proofs.lemmas.List.Elements.{All-from_recursion, recursion_from_All, All-append, All-map, All-weaker, Contains-get_or, Contains-append_left, Contains-append_right, Contains-append_cases}
use Rattle.gf256.specs.Polynomial.{coef}
use Rattle.rr_roots.specs.Roots.{ListsYRoots}
use Rattle.rr_roots.specs.Descent.{ListsAll, Appends, IsRootOfSize}

-- p comes before q
abbrev Precedes : List ℕ → List ℕ → Type 0
Precedes p q = slice_cmp nat_cmp p q ≡ Less

-- a byte is as great as itself
same_first : (g : ℕ) → nat_cmp g g ≡ Equal
same_first g = grind (arith, nat_tests)

-- and comes before a greater one
less_first : (g k : ℕ) → g < k → nat_cmp g k ≡ Less
less_first g k h = grind (arith, nat_tests)

-- a byte more before both
precedes-same : (g : ℕ) (p q : List ℕ) → Precedes p q → Precedes (g ∷ p) (g ∷ q)
precedes-same g p q h = ap (λ o. ordering_then o (slice_cmp nat_cmp p q)) (same_first g) ∙ h

-- the lesser first byte
precedes-less : (p : List ℕ) (g : ℕ) (q : List ℕ) → 0 < length p → coef p 0 < g → Precedes p (g ∷ q)
unfolding coef
precedes-less [] g q l h = absurd (omega arith)
precedes-less (c ∷ p) g q l h = ap (λ o. ordering_then o (slice_cmp nat_cmp p q)) (less_first c g h)

-- one byte before each
ascending-map : (g : ℕ) (lists : List (List ℕ)) → IsStrictlySortedBy (slice_cmp nat_cmp) lists → IsStrictlySortedBy (slice_cmp nat_cmp) (map (λ p. g ∷ p) lists)
unfolding IsStrictlySortedBy
ascending-map g [] h = tt
ascending-map g (p ∷ ps) h = (
  recursion_from_All (Precedes (g ∷ p)) (map (λ q. g ∷ q) ps)
      (All-map (Precedes (g ∷ p)) (λ q. g ∷ q) ps
      (All-weaker (Precedes p) (λ q. Precedes (g ∷ p) (g ∷ q)) (precedes-same g p) ps (All-from_recursion (Precedes p) ps h.0))),
  ascending-map g ps h.1,
)

-- two lists, where each of the one comes before each of the other
ascending-append : (ps qs : List (List ℕ)) → IsStrictlySortedBy (slice_cmp nat_cmp) ps → IsStrictlySortedBy (slice_cmp nat_cmp) qs
    → ((p q : List ℕ) → Contains ps p → Contains qs q → Precedes p q) → IsStrictlySortedBy (slice_cmp nat_cmp) (ps ++ qs)
unfolding IsStrictlySortedBy
ascending-append [] qs hp hq h = hq
ascending-append (p ∷ ps) qs hp hq h = (
  recursion_from_All (Precedes p) (ps ++ qs)
      (All-append (Precedes p) ps qs (All-from_recursion (Precedes p) ps hp.0)
      (λ k d l. h p _ (0, omega arith, refl) (Contains-get_or qs k d l))),
  ascending-append ps qs hp.1 hq (λ a b ca cb. h a b (Contains-append_right (p ∷ []) ps a ca) cb),
)

-- what has a byte before it is in the list
Contains-map : (g : ℕ) (p : List ℕ) (lists : List (List ℕ)) → Contains lists p → Contains (map (λ q. g ∷ q) lists) (g ∷ p)
Contains-map g p lists (k, l, e) =
    (k, omega (arith, l, length-map lists (λ q. g ∷ q)), get_or-map (λ q. g ∷ q) lists k p (g ∷ p) l ∙ ap (λ q. g ∷ q) e)

-- and the other way
from_map : (g : ℕ) (p : List ℕ) (lists : List (List ℕ)) → Contains (map (λ q. g ∷ q) lists) p → (q : List ℕ) × (p ≡ g ∷ q) × Contains lists q
from_map g p lists (k, l, e) =
    let m : k < length lists = omega (arith, l, length-map lists (λ q. g ∷ q)) in
    (_, sym (sym (get_or-map (λ q. g ∷ q) lists k [] p m) ∙ e), Contains-get_or lists k [] m)

-- ---- gathered by the first byte

-- the lists are those of which P holds and whose first byte is below g
abbrev pub ListsBelow : (List ℕ → Type 0) → ℕ → List (List ℕ) → Type 0
ListsBelow P g lists = ListsAll (λ phi. P phi × (coef phi 0 < g)) lists

-- those that begin with g are g before those of which Sub holds
below-more : (P Sub : List ℕ → Type 0) (g : ℕ) (lists sub : List (List ℕ)) → ((phi : List ℕ) → P phi → 0 < length phi) → ListsBelow P g lists → ListsAll Sub sub
    → ((psi : List ℕ) → Sub psi ↔ P (g ∷ psi)) → ListsBelow P (g + 1) (lists ++ map (λ psi. g ∷ psi) sub)
unfolding coef
below-more P Sub g lists sub some h s same =
    let longer = map (λ psi. g ∷ psi) sub in
    record {
      ascending = ascending-append lists longer h.ascending (ascending-map g sub s.ascending)
          (λ p q cp cq.
          let (holds, below) = (h.exact p).0 cp in
          let (psi, e, _) = from_map g q sub cq in
          subst (Precedes p) (sym e) (precedes-less p g psi (some p holds) below));
      exact = λ phi. (
        λ c. elim (Contains-append_cases lists longer phi c) [
          | inl before ↦ let (p, l) = (h.exact phi).0 before in (p, omega (arith, l))
          | inr new ↦
              let (psi, e, c) = from_map g phi sub new in
              (subst P (sym e) ((same psi).0 ((s.exact psi).0 c)), subst (λ p. coef p 0 < g + 1) (sym e) (omega arith))
        ],
        λ (p, l). elim (cases_lt (coef phi 0) g) [
          | inl before ↦ Contains-append_left lists longer phi ((h.exact phi).1 (p, before))
          | inr past ↦ Contains-append_right lists longer phi (begins phi p (omega (arith, l, past)))
        ],
      );
    }
  where
    begins : (phi : List ℕ) → P phi → coef phi 0 ≡ g → Contains (map (λ psi. g ∷ psi) sub) phi
    begins [] p e = let l = some [] p in absurd (omega (arith, l))
    begins (c ∷ phi) p e =
        let again : P (g ∷ phi) = subst (λ k. P (k ∷ phi)) e p in
        subst (λ k. Contains (map (λ psi. g ∷ psi) sub) (k ∷ phi)) (sym e) (Contains-map g phi sub ((s.exact phi).1 ((same phi).1 again)))

-- ---- appended, each after the coefficients before it

-- one coefficient more before each
longer_prefix : (prefix : List ℕ) (g : ℕ) (lists : List (List ℕ)) → map (λ psi. (prefix ++ g ∷ []) ++ psi) lists ≡ map (λ phi. prefix ++ phi) (map (λ psi. g ∷ psi) lists)
longer_prefix prefix g [] = refl
longer_prefix prefix g (psi ∷ lists) = ap₂ ◌∷◌ (append_assoc prefix (g ∷ []) psi) (longer_prefix prefix g lists)

-- P holds, and the first byte is below g
abbrev pub HoldsBelow : (List ℕ → Type 0) → ℕ → List ℕ → Type 0
HoldsBelow P g phi = P phi × (coef phi 0 < g)

-- those that begin with g are appended to the others, with g at the end of the prefix
pub appends-more : (P Sub : List ℕ → Type 0) (g : ℕ) (prefix : List ℕ) (old before new : List (List ℕ)) → ((phi : List ℕ) → P phi → 0 < length phi) → ((psi : List ℕ) → Sub psi ↔ P (g ∷ psi))
    → Appends (HoldsBelow P g) prefix old before → Appends Sub (prefix ++ g ∷ []) before new → Appends (HoldsBelow P (g + 1)) prefix old new
appends-more P Sub g prefix old before new some same h s = record {
  found = h.found ++ map (λ psi. g ∷ psi) s.found;
  all = below-more P Sub g h.found s.found some h.all s.all same;
  appended =
      s.appended
      ∙ ap₂ ◌++◌ h.appended (longer_prefix prefix g s.found)
      ∙ append_assoc old (map (λ phi. prefix ++ phi) h.found) (map (λ phi. prefix ++ phi) (map (λ psi. g ∷ psi) s.found))
      ∙ ap (◌++◌ old) (sym (map-append (λ phi. prefix ++ phi) h.found (map (λ psi. g ∷ psi) s.found)));
}

-- what is appended, said in other words
pub appends-same : (P Q : List ℕ → Type 0) (prefix : List ℕ) (old new : List (List ℕ)) → ((phi : List ℕ) → P phi ↔ Q phi) → Appends P prefix old new → Appends Q prefix old new
appends-same P Q prefix old new same h = record {
  found = h.found;
  all = record {
    ascending = h.all.ascending;
    exact = λ phi. (λ c. (same phi).0 ((h.all.exact phi).0 c), λ q. (h.all.exact phi).1 ((same phi).1 q));
  };
  appended = h.appended;
}

-- no more where none begins with a byte from `from` on and below `to`
pub appends-skips : (P : List ℕ → Type 0) (from to : ℕ) (prefix : List ℕ) (old new : List (List ℕ)) → from ≤ to → Appends (HoldsBelow P from) prefix old new
    → ((g : ℕ) → from ≤ g → g < to → (phi : List ℕ) → P phi → coef phi 0 ≡ g → ⊥) → Appends (HoldsBelow P to) prefix old new
appends-skips P from to prefix old new up h none =
    appends-same (HoldsBelow P from) (HoldsBelow P to) prefix old new
    (λ phi. (
      λ b. (b.0, omega (arith, up, b.1)),
      λ b. (b.0, elim (cases_lt (coef phi 0) from) [ inl low ↦ low | inr past ↦ absurd (none (coef phi 0) past b.1 phi b.0 refl) ]),
    )) h

-- nothing is appended where P holds of none
pub appends-nothing : (P : List ℕ → Type 0) (prefix : List ℕ) (old : List (List ℕ)) → ((phi : List ℕ) → P phi → ⊥) → Appends P prefix old old
unfolding IsStrictlySortedBy
appends-nothing P prefix old none = record {
  found = [];
  all = record { ascending = tt; exact = λ phi. (λ (k, l, e). absurd (omega (arith, l)), λ p. absurd (none phi p)) };
  appended = sym (append-nil old);
}

-- the prefix is appended where P holds of the empty list alone
pub appends-prefix : (P : List ℕ → Type 0) (prefix : List ℕ) (old : List (List ℕ)) → P [] → ((phi : List ℕ) → P phi → length phi ≡ 0) → Appends P prefix old (old ++ prefix ∷ [])
unfolding IsStrictlySortedBy
appends-prefix P prefix old empty alone = record {
  found = [] ∷ [];
  all = record {
    ascending = (tt, tt);
    exact = λ phi. (
      λ (k, l, e). let none : k ≡ 0 = omega (arith, l) in subst P (ap (λ i. get_or ([] ∷ []) i phi) (sym none) ∙ e) empty,
      λ p. (0, omega arith, sym (nil_from_length phi (alone phi p))),
    );
  };
  appended = ap (λ p. old ++ p ∷ []) (sym (append-nil prefix));
}

-- ---- the y-roots

-- appended to nothing, after nothing, they are listed
pub listed : (q : List (List ℕ)) (t : ℕ) (new : List (List ℕ)) → Appends (IsRootOfSize q (t + 1)) [] [] new → ListsYRoots new q t
listed q t new h =
    subst (λ roots. ListsYRoots roots q t) (sym (h.appended ∙ map-id h.found))
    (record {
      ascending = h.all.ascending;
      exact = λ phi. (
        λ c. let root = (h.all.exact phi).0 c in (record { size = root.size; bytes = root.bytes }, root.root),
        λ (is, root). (h.all.exact phi).1 (record { size = is.size; bytes = is.bytes; root = root }),
      );
    })

-- none before the first byte
pub appends-none_yet : (P : List ℕ → Type 0) (prefix : List ℕ) (old : List (List ℕ)) → Appends (HoldsBelow P 0) prefix old old
appends-none_yet P prefix old = appends-nothing (HoldsBelow P 0) prefix old (λ phi h. absurd (omega (arith, h.1)))

-- all after the last
pub appends-all : (P : List ℕ → Type 0) (g : ℕ) (prefix : List ℕ) (old new : List (List ℕ)) → ((phi : List ℕ) → P phi → coef phi 0 < g)
    → Appends (HoldsBelow P g) prefix old new → Appends P prefix old new
appends-all P g prefix old new below = appends-same (HoldsBelow P g) P prefix old new (λ phi. (λ h. h.0, λ h. (h, below phi h)))
