-- The list of points of which all but a few lie on one polynomial, and of points too few for whatever misses many.
use Rattle.std.proofs.Common.{◌≡◌, ◌≢◌, ℕ, ◌+◌, ◌<◌, ◌≤◌, Bool, true, false, not, cond, ◌==◌, List, [], ◌∷◌, length, get_or, All, AllPairs, Contains, nat_le, refl, sym, ap, subst, ◌∙◌, arith}
use Rattle.std.specs.List.{filter}
use Rattle.std.specs.List.Sorted.{IsStrictlySortedBy}
use Rattle.std.specs.Cmp.Lexicographic.{slice_cmp}
use Rattle.std.specs.Ordering.{nat_cmp}
use Rattle.std.proofs.lemmas.Bool.{eqb-true, leb-true, le-leb}
use Rattle.std.proofs.lemmas.List.Elements.{All-contains, All-contains_itself, All-filter, filter_passes}
use Rattle.std.proofs.lemmas.List.Kept.{AllPairs-filter, IsStrictlySortedBy-filter}
use Rattle.std.proofs.lemmas.List.Sums.{sum_by-cons}
use Rattle.gf256.specs.Polynomial.{val, IsPolynomial}
use Rattle.column_runs.specs.Close.{misses, least_misses, EachMisses, IsClose}
use Rattle.column_lists.specs.Agreement.{agreements, ListsAgreeing}
use Rattle.column_lists.proofs.Agreeing.{takes}
use Rattle.column_lists.proofs.Kept.{Contains-filter}
use Rattle.column_lists.proofs.OnOne.{only_one}

-- a test or its contrary passes
counts : (b : Bool) → cond b 1 0 + cond (not b) 1 0 ≡ 1
counts true = refl
counts false = refl

-- a test counts once at most
counts-le : (b : Bool) → cond b 1 0 ≤ 1
counts-le true = omega arith
counts-le false = omega arith

-- each point agrees with a polynomial or is off it
pub agree-or-miss : (phi : List ℕ) (points : List (ℕ × ℕ)) → agreements phi points + misses phi points ≡ length points
unfolding agreements misses
agree-or-miss phi [] = refl
agree-or-miss phi (p ∷ points) =
    let rest = agree-or-miss phi points in
    let on = sum_by-cons (λ q. cond (val phi q.0 == q.1) 1 0) p points in
    let off = sum_by-cons (λ q. cond (not (val phi q.0 == q.1)) 1 0) p points in
    let one = counts (val phi p.0 == p.1) in
    omega (arith, on, off, one, rest)

-- a point more, which psi may agree with, and which is on phi or not
agree-more : (psi : List ℕ) (p : ℕ × ℕ) (kept : List (ℕ × ℕ)) (on : Bool)
    → cond (val psi p.0 == p.1) 1 0 + agreements psi kept ≤ agreements psi (cond on (p ∷ kept) kept) + cond (not on) 1 0
unfolding agreements
agree-more psi p kept true =
    let more = sum_by-cons (λ q. cond (val psi q.0 == q.1) 1 0) p kept in
    omega (arith, more)
agree-more psi p kept false =
    let one = counts-le (val psi p.0 == p.1) in
    omega (arith, one)

-- the points at which psi agrees are off phi, but for those on it
agree-on : (psi phi : List ℕ) (points : List (ℕ × ℕ)) → agreements psi points ≤ agreements psi (filter (takes phi) points) + misses phi points
unfolding agreements misses takes
agree-on psi phi [] = omega arith
agree-on psi phi (p ∷ points) =
    let rest = agree-on psi phi points in
    let more = sum_by-cons (λ q. cond (val psi q.0 == q.1) 1 0) p points in
    let off = sum_by-cons (λ q. cond (not (val phi q.0 == q.1)) 1 0) p points in
    let one = agree-more psi p (filter (takes phi) points) (val phi p.0 == p.1) in
    omega (arith, rest, more, off, one)

-- points that pass lie on it
on-kept : (phi : List ℕ) (points : List (ℕ × ℕ)) → All (λ p. val phi p.0 ≡ p.1) (filter (takes phi) points)
unfolding takes
on-kept phi points = λ k p l. eqb-true _ _ (filter_passes (takes phi) points k p l)

-- the member of a list of one
the_one : (phi psi : List ℕ) → Contains (phi ∷ []) psi → phi ≡ psi
the_one phi psi c =
    let l = c.1 in
    let first : c.0 ≡ 0 = omega arith in
    ap (λ k. get_or (phi ∷ []) k psi) (sym first) ∙ c.2

module _ (phi : List ℕ) (points : List (ℕ × ℕ)) (t h : ℕ) (close : IsClose phi points t h)
    (distinct : AllPairs (λ p q. p.0 ≢ q.0) points) (small : All (λ p. p.0 < 256) points) where
  -- nothing else agrees with h of the points
  pub alone : (psi : List ℕ) → IsPolynomial t psi → h ≤ agreements psi points → psi ≡ phi
  alone psi is many =
      let kept = filter (takes phi) points in
      let enough = agree-on psi phi points in
      let few = close.few in
      only_one psi phi kept t (t + 1) (omega arith) is close.degree (on-kept phi points)
      (AllPairs-filter (λ p q. p.0 ≢ q.0) (takes phi) points distinct) (All-filter (takes phi) (λ p. p.0 < 256) points small)
      (omega (arith, enough, few, many))

  -- so it is the list where it does
  pub lists_close : ListsAgreeing (filter (λ psi. nat_le h (agreements psi points)) (phi ∷ [])) points t h
  unfolding IsStrictlySortedBy
  lists_close =
      let test = λ (psi : List ℕ). nat_le h (agreements psi points) in
      let one = phi ∷ [] in
      record {
        ascending = IsStrictlySortedBy-filter (slice_cmp nat_cmp) test one (tt, tt);
        exact = λ psi. (
          λ c.
              let there = All-contains (Contains one) (filter test one) psi (All-filter test (Contains one) one (All-contains_itself one)) c in
              let passes = All-contains (λ x. test x ≡ true) (filter test one) psi (filter_passes test one) c in
              let same = the_one phi psi there in
              (subst (IsPolynomial t) same close.degree, leb-true h (agreements psi points) passes),
          λ a.
              Contains-filter test one psi (0, omega arith, sym (alone psi a.0 a.1)) (le-leb h (agreements psi points) a.1),
        );
      }

-- nothing agrees with h of so few points
pub lists_none : (points : List (ℕ × ℕ)) (t h : ℕ) → EachMisses (least_misses t h) points t → length points < h + least_misses t h → ListsAgreeing [] points t h
unfolding IsStrictlySortedBy
lists_none points t h each few = record {
  ascending = tt;
  exact = λ psi. (
    λ c. let l = c.1 in absurd (omega (arith, l)),
    λ a.
        let off = each psi a.0 in
        let all = agree-or-miss psi points in
        let many = a.1 in
        absurd (omega (arith, off, all, many, few)),
  );
}
