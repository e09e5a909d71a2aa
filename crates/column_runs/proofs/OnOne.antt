-- Points that all lie on one polynomial, and the first of them, which tell it.
use Rattle.std.proofs.Common.{◌≡◌, ◌≢◌, ℕ, ◌<◌, ◌≤◌, ◌↔◌, Bool, false, IsTrue, List, length, map, take, All, AllPairs, sym, ap, subst, ◌∙◌, arith, length-take, get_or-take}
use Rattle.std.proofs.lemmas.Bool.{false≢true}
use Rattle.std.proofs.lemmas.List.{length-map, get_or-map}
use Rattle.std.proofs.lemmas.List.Elements.{All-take}
use Rattle.gf256.specs.Polynomial.{val, IsPolynomial}
use Rattle.uni_poly.specs.Interpolation.{Interpolates}
use Rattle.column_runs.specs.OnOne.{LieOnOne}

-- no two of the first members are the same
pub AllPairs-firsts : (points : List (ℕ × ℕ)) → AllPairs (λ p q. p.0 ≢ q.0) points → AllPairs (λ x y. x ≢ y) (map (λ p. p.0) points)
AllPairs-firsts points h = λ i j d l m.
    let n = length-map points (λ p. p.0) in
    let e = get_or-map (λ (p : ℕ × ℕ). p.0) points i (d, 0) d (omega arith) in
    let f = get_or-map (λ (p : ℕ × ℕ). p.0) points j (d, 0) d (omega arith) in
    λ same. h i j (d, 0) l (omega arith) (sym e ∙ same ∙ f)

-- where they do not all lie on the only polynomial on which they can, they lie on none
pub off_one : (phi : List ℕ) (points : List (ℕ × ℕ)) (t : ℕ) (all : Bool) → all ≡ false → IsTrue all ↔ All (λ p. val phi p.0 ≡ p.1) points
    → ((psi : List ℕ) → IsPolynomial t psi → All (λ p. val psi p.0 ≡ p.1) points → psi ≡ phi) → ¬ LieOnOne points t
off_one phi points t all apart test only one =
    let on = subst (λ q. All (λ p. val q p.0 ≡ p.1) points) (only one.0 one.1 one.2) one.2 in
    false≢true (sym apart ∙ test.1 on)

-- the first members of some of the points
module _ (points : List (ℕ × ℕ)) (n : ℕ) (l : n ≤ length points) where
  -- they are so many
  pub length-firsts : length (map (λ p. p.0) (take n points)) ≡ n
  length-firsts = let m = length-map (take n points) (λ p. p.0) in let s = length-take n points in omega arith

  -- a polynomial on which all points lie interpolates them
  pub interpolates_some : (psi : List ℕ) → length psi ≡ n → All (λ c. c < 256) psi → All (λ p. val psi p.0 ≡ p.1) points
      → Interpolates (map (λ p. p.0) (take n points)) (map (λ p. p.1) (take n points)) psi
  interpolates_some psi size bytes on = record {
    size = size ∙ sym length-firsts;
    bytes = bytes;
    through = λ i k.
        let m = length-map (take n points) (λ p. p.0) in
        let lies = All-take (λ p. val psi p.0 ≡ p.1) n points on i (0, 0) (omega arith) in
        ap (val psi) (get_or-map (λ p. p.0) (take n points) i (0, 0) 0 (omega arith)) ∙ lies
        ∙ sym (get_or-map (λ p. p.1) (take n points) i (0, 0) 0 (omega arith));
  }

-- no two of some of the points have the same first member
AllPairs-take : (n : ℕ) (points : List (ℕ × ℕ)) → AllPairs (λ p q. p.0 ≢ q.0) points → AllPairs (λ p q. p.0 ≢ q.0) (take n points)
AllPairs-take n points h = λ i j d l m same.
    let size = length-take n points in
    h i j d l (omega arith)
    (ap (λ (p : ℕ × ℕ). p.0) (sym (get_or-take n points i d (omega arith))) ∙ same ∙ ap (λ (p : ℕ × ℕ). p.0) (get_or-take n points j d (omega arith)))

-- no two of them are equal
pub distinct_firsts : (n : ℕ) (points : List (ℕ × ℕ)) → AllPairs (λ p q. p.0 ≢ q.0) points → AllPairs (λ x y. x ≢ y) (map (λ p. p.0) (take n points))
distinct_firsts n points h = AllPairs-firsts (take n points) (AllPairs-take n points h)
