-- Points that all lie on one polynomial: it alone agrees with more of them than its degree.
use Rattle.std.proofs.Common.{◌≡◌, ◌≢◌, ℕ, zero, suc, ◌+◌, ◌<◌, ◌≤◌, List, [], ◌∷◌, length, get_or, take, All, AllPairs, ◌==◌, refl, sym, ap, subst, ◌∙◌, arith, eq-eqb}
use Rattle.std.specs.List.{filter, count_by}
use Rattle.std.specs.List.Sorted.{IsStrictlySortedBy}
use Rattle.std.proofs.lemmas.Bool.{eqb-true}
use Rattle.std.proofs.lemmas.List.Elements.{All-map, All-filter, filter_passes}
use Rattle.std.proofs.lemmas.List.Sums.{count_by_more_yes}
use Rattle.std.proofs.lemmas.List.{take_all}
use Rattle.gf256.specs.Polynomial.{val, IsPolynomial}
use Rattle.uni_poly.proofs.Coefficients.{HasDegreeBelow-length, IsBytes-from_all, list_from_same}
use Rattle.uni_poly.proofs.Uniqueness.{same_polynomial}
use Rattle.column_lists.specs.Agreement.{agreements, ListsAgreeing}
use Rattle.column_lists.proofs.Agreeing.{takes, places, length-places, places-bytes, places-distinct}

-- a polynomial that agrees with more of the points than its degree is the one on which all lie
pub only_one : (psi phi : List ℕ) (points : List (ℕ × ℕ)) (t h : ℕ) → t < h → IsPolynomial t psi → IsPolynomial t phi → All (λ p. val phi p.0 ≡ p.1) points
    → AllPairs (λ p q. p.0 ≢ q.0) points → All (λ p. p.0 < 256) points → h ≤ agreements psi points → psi ≡ phi
unfolding places takes
only_one psi phi points t h more is one on distinct small enough =
    let xs = places psi points in
    let long = length-places psi points in
    let p = is.size in
    let q = one.size in
    list_from_same psi phi (p ∙ sym q)
    (same_polynomial psi phi xs (IsBytes-from_all psi is.bytes) (IsBytes-from_all phi one.bytes)
    (HasDegreeBelow-length psi (length xs) (omega arith)) (HasDegreeBelow-length phi (length xs) (omega arith))
    (places-bytes psi points small) (places-distinct psi points distinct)
    (All-map (λ x. val psi x ≡ val phi x) (λ p. p.0) (filter (takes psi) points)
    (λ k p l.
    let lies = All-filter (takes psi) (λ p. val phi p.0 ≡ p.1) points on k p l in
    let passes = filter_passes (takes psi) points k p l in
    eqb-true _ _ passes ∙ sym lies)))

-- at each of the first points
agreements-take : (phi : List ℕ) (points : List (ℕ × ℕ)) (i : ℕ) → All (λ p. val phi p.0 ≡ p.1) points → i ≤ length points → agreements phi (take i points) ≡ i
unfolding agreements
agreements-take phi points zero on l = refl
agreements-take phi points (suc i) on l =
    let ih = agreements-take phi points i on (omega arith) in
    let yes = eq-eqb _ _ (on i (0, 0) (omega arith)) in
    let more = count_by_more_yes (λ p. val phi p.0 == p.1) points i (0, 0) (omega arith) yes in
    let next : i + 1 ≡ suc i = omega arith in
    ap (λ k. count_by (λ p. val phi p.0 == p.1) (take k points)) (sym next) ∙ more ∙ omega arith

-- it agrees with all
agreements-all : (phi : List ℕ) (points : List (ℕ × ℕ)) → All (λ p. val phi p.0 ≡ p.1) points → agreements phi points ≡ length points
agreements-all phi points on =
    ap (agreements phi) (sym (take_all (length points) points (omega arith))) ∙ agreements-take phi points (length points) on (omega arith)

-- so it is the list
pub lists_one : (phi : List ℕ) (points : List (ℕ × ℕ)) (t h : ℕ) → t < h → h ≤ length points → IsPolynomial t phi → All (λ p. val phi p.0 ≡ p.1) points
    → AllPairs (λ p q. p.0 ≢ q.0) points → All (λ p. p.0 < 256) points → ListsAgreeing (phi ∷ []) points t h
unfolding IsStrictlySortedBy
lists_one phi points t h more few one on distinct small = record {
  ascending = (tt, tt);
  exact = λ psi. (
    λ c.
        let l = c.1 in
        let first : c.0 ≡ 0 = omega arith in
        let same : phi ≡ psi = ap (λ k. get_or (phi ∷ []) k psi) (sym first) ∙ c.2 in
        subst (λ p. IsPolynomial t p × (h ≤ agreements p points)) same (one, let all = agreements-all phi points on in omega arith),
    λ a. (0, omega arith, sym (only_one psi phi points t h more a.0 one on distinct small a.1)),
  );
}
