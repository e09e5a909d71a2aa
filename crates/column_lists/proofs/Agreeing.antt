-- What agrees with enough of the points is a y-root of what was interpolated (Guruswami and Sudan 1999).
use Rattle.std.proofs.Common.{◌≡◌, ◌≢◌, ℕ, ◌+◌, ◌*◌, ◌<◌, ◌≤◌, Bool, List, length, map, get_or, replicate, All, AllPairs, ◌==◌, sym, subst, ◌∙◌, arith, inl, inr, mul-le-mul_right}
use Rattle.std.specs.List.{filter}
use Rattle.std.proofs.lemmas.Bool.{cases_eq, eqb-true}
use Rattle.std.proofs.lemmas.List.{length-map}
use Rattle.std.proofs.lemmas.List.Elements.{All-map, All-filter, filter_passes}
use Rattle.std.proofs.lemmas.List.Kept.{AllPairs-filter}
use Rattle.std.proofs.lemmas.List.Sums.{length-filter}
use Rattle.gf256.specs.Polynomial.{coef, val}
use Rattle.uni_poly.specs.Coefficients.{HasDegreeBelow}
use Rattle.uni_poly.specs.Taylor.{VanishesAt}
use Rattle.uni_poly.proofs.Coefficients.{HasDegreeBelow-length}
use Rattle.uni_poly.proofs.Multiplicity.{too_many_zeros, zeros-replicate, sum-replicate}
use Rattle.uni_poly.proofs.Quotient.{IsZero-from_low}
use Rattle.bi_poly.specs.Rows.{cell, AreBytes}
use Rattle.bi_poly.specs.Hasse.{HasZero}
use Rattle.bi_poly.specs.Substitution.{IsAtPoly}
use Rattle.bi_poly.proofs.Composition.{at_poly_coef-series}
use Rattle.bi_poly.proofs.Zeros.{VanishesAt-from_zero, at_list, coef-at_list}
use Rattle.rr_roots.specs.Roots.{IsYRoot}
use Rattle.interpolation.specs.Interpolant.{IsInterpolant}
use Rattle.column_runs.proofs.OnOne.{AllPairs-firsts}
use Rattle.column_lists.specs.Agreement.{agreements}
use Rattle.column_lists.proofs.ComposedDegree.{at_series-degree, at_series-bytes, IsLighterThan}

-- whether phi takes the second member at the first
unfoldable pub takes : List ℕ → ℕ × ℕ → Bool
takes phi p = val phi p.0 == p.1

-- where: the first members of the points at which it does
unfoldable pub places : List ℕ → List (ℕ × ℕ) → List ℕ
places phi points = map (λ p. p.0) (filter (takes phi) points)

-- they are as many as the agreements
pub length-places : (phi : List ℕ) (points : List (ℕ × ℕ)) → length (places phi points) ≡ agreements phi points
unfolding places takes agreements
length-places phi points = length-map (filter (takes phi) points) (λ p. p.0) ∙ length-filter (takes phi) points

-- they are bytes
pub places-bytes : (phi : List ℕ) (points : List (ℕ × ℕ)) → All (λ p. p.0 < 256) points → All (λ x. x < 256) (places phi points)
unfolding places
places-bytes phi points h =
    All-map (λ x. x < 256) (λ p. p.0) (filter (takes phi) points) (All-filter (takes phi) (λ p. p.0 < 256) points h)

-- no two are the same
pub places-distinct : (phi : List ℕ) (points : List (ℕ × ℕ)) → AllPairs (λ p q. p.0 ≢ q.0) points → AllPairs (λ x y. x ≢ y) (places phi points)
unfolding places
places-distinct phi points h = AllPairs-firsts (filter (takes phi) points) (AllPairs-filter (λ p q. p.0 ≢ q.0) (takes phi) points h)

-- at each, q(x, phi(x)) has a zero
places-zeros : (q : List (List ℕ)) (phi : List ℕ) (points : List (ℕ × ℕ)) (m : ℕ) → All (λ p. HasZero q p.0 p.1 m) points
    → All (λ x. VanishesAt (at_list q phi) x m) (places phi points)
unfolding places takes
places-zeros q phi points m h =
    All-map (λ x. VanishesAt (at_list q phi) x m) (λ p. p.0) (filter (takes phi) points)
    (λ k p l.
    let zero_ = All-filter (takes phi) (λ p. HasZero q p.0 p.1 m) points h k p l in
    let passes = filter_passes (takes phi) points k p l in
    let e = eqb-true _ _ passes in
    let a : ℕ = (get_or (filter (takes phi) points) k p).0 in
    VanishesAt-from_zero q phi (at_list q phi) a m (subst (λ b. HasZero q a b m) (sym e) zero_) (is_at_poly q phi))
  where
    is_at_poly : (q : List (List ℕ)) (phi : List ℕ) → IsAtPoly q phi (at_list q phi)
    is_at_poly q phi e = coef-at_list q phi e ∙ sym (at_poly_coef-series q phi e)

-- the main theorem
pub agreeing_root : (q : List (List ℕ)) (phi : List ℕ) (points : List (ℕ × ℕ)) (m t h d : ℕ) → AreBytes q → IsInterpolant q points m t d → d + 1 ≡ h * m
    → AllPairs (λ p q. p.0 ≢ q.0) points → All (λ p. p.0 < 256) points → length phi ≤ t + 1 → h ≤ agreements phi points → IsYRoot q phi
agreeing_root q phi points m t h d bytes is degree distinct small size enough e =
    let xs = places phi points in
    let long = length-places phi points in
    let many : h * m ≤ length xs * m = mul-le-mul_right m (omega (arith, long, enough)) in
    let light : IsLighterThan (length xs * m) t q = λ j i l. elim (cases_eq (cell q j i) 0) [
      | inl z ↦ z
      | inr n ↦ let weight = is.weighted_degree j i n in absurd (omega arith)
    ] in
    let above : (k : ℕ) → t < k → coef phi k ≡ 0 = λ k l. HasDegreeBelow-length phi (t + 1) size k (omega arith) in
    let low = too_many_zeros xs (replicate (length xs) m) (at_list q phi) (places-bytes phi points small) (places-distinct phi points distinct)
    (zeros-replicate xs m (at_list q phi) (places-zeros q phi points m is.zeros))
    (subst (HasDegreeBelow (at_list q phi)) (sym (sum-replicate (length xs) m))
    (λ k l. coef-at_list q phi k ∙ at_series-degree q (coef phi) t (length xs * m) above light k l)) in
    at_poly_coef-series q phi e ∙ sym (coef-at_list q phi e)
    ∙ IsZero-from_low (at_list q phi) (λ k. subst (λ x. x < 256) (sym (coef-at_list q phi k)) (at_series-bytes q (coef phi) k bytes)) low e
