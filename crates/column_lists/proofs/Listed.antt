-- The y-roots that agree with enough of the points are all polynomials that do (Guruswami and Sudan 1999).
use Rattle.std.proofs.Common.{◌≡◌, ◌≢◌, ℕ, ◌+◌, ◌*◌, ◌/◌, ◌<◌, ◌≤◌, true, List, All, AllPairs, Contains, nat_le, sym, ap, subst, arith, inl, inr, mul-le-mul_left}
use Rattle.std.specs.List.{filter}
use Rattle.std.specs.Cmp.Lexicographic.{slice_cmp}
use Rattle.std.specs.Ordering.{nat_cmp}
use Rattle.std.proofs.lemmas.Bool.{cases_eq, leb-true, le-leb}
use Rattle.std.proofs.lemmas.List.Elements.{All-contains, All-contains_itself, All-filter, filter_passes}
use Rattle.std.proofs.lemmas.List.Kept.{IsStrictlySortedBy-filter}
use Rattle.bi_poly.specs.Rows.{cell, AreBytes}
use Rattle.rr_roots.specs.Roots.{ListsYRoots, HasDegreeInYAtMost}
use Rattle.interpolation.specs.Interpolant.{IsInterpolant}
use Rattle.column_lists.specs.Numbers.{mult, degree_of}
use Rattle.column_lists.specs.Agreement.{agreements, ListsAgreeing}
use Rattle.column_lists.proofs.Kept.{Contains-filter}
use Rattle.column_lists.proofs.Agreeing.{agreeing_root}

-- the roots that agree are the list
pub listed : (roots kept q : List (List ℕ)) (points : List (ℕ × ℕ)) (m t h d : ℕ) → AreBytes q → IsInterpolant q points m t d → d + 1 ≡ h * m
    → AllPairs (λ p q. p.0 ≢ q.0) points → All (λ p. p.0 < 256) points → ListsYRoots roots q t → kept ≡ filter (λ phi. nat_le h (agreements phi points)) roots
    → ListsAgreeing kept points t h
listed roots kept q points m t h d bytes is degree distinct small all e =
    let test = λ (phi : List ℕ). nat_le h (agreements phi points) in
    subst (λ list. ListsAgreeing list points t h) (sym e) (record {
      ascending = IsStrictlySortedBy-filter (slice_cmp nat_cmp) test roots all.ascending;
      exact = λ phi. (
        λ c.
            let root = All-contains (Contains roots) (filter test roots) phi (All-filter test (Contains roots) roots (All-contains_itself roots)) c in
            let passes = All-contains (λ x. test x ≡ true) (filter test roots) phi (filter_passes test roots) c in
            (((all.exact phi).0 root).0, leb-true h (agreements phi points) passes),
        λ a.
            let size = a.0.size in
            let root = agreeing_root q phi points m t h d bytes is degree distinct small (omega arith) a.1 in
            Contains-filter test roots phi ((all.exact phi).1 (a.0, root)) (le-leb h (agreements phi points) a.1),
      );
    })

-- the degree in y is at most the weighted degree divided by the weight of y
pub degree_in_y : (q : List (List ℕ)) (points : List (ℕ × ℕ)) (m t d : ℕ) → 1 ≤ t → IsInterpolant q points m t d → HasDegreeInYAtMost q (d / t)
degree_in_y q points m t d some is j i l =
    elim (cases_eq (cell q j i) 0) [
      | inl z ↦ z
      | inr n ↦
          let weight = is.weighted_degree j i n in
          let more : t * (d / t + 1) ≤ t * j = mul-le-mul_left t (omega (arith, l)) in
          let past = past_quotient t d some in
          absurd (omega (arith, weight, more, past))
    ]
  where
    past_quotient : (t d : ℕ) → 1 ≤ t → d < t * (d / t + 1)
    past_quotient t d some = omega arith

-- the degree of the plan
pub degree_is : (k t h m d : ℕ) → d + 1 ≡ h * m → m ≡ mult k t h → d ≡ degree_of k t h
degree_is k t h m d e is = let f = ap (λ (x : ℕ). h * x) is in omega (arith, e, f)

-- the nodes of the search for the y-roots
pub nodes_most : (q : List (List ℕ)) (points : List (ℕ × ℕ)) (k m t h d old new : ℕ) → 1 ≤ t → IsInterpolant q points m t d → d + 1 ≡ h * m → m ≡ mult k t h
    → ((n : ℕ) → HasDegreeInYAtMost q n → new ≤ old + (t + 1) * n) → new ≤ old + (t + 1) * (degree_of k t h / t)
nodes_most q points k m t h d old new some is e mult_is most =
    subst (λ x. new ≤ old + (t + 1) * (x / t)) (degree_is k t h m d e mult_is) (most (d / t) (degree_in_y q points m t d some is))
