-- The polynomials that agree with points of which some may be wrong (Guruswami and Sudan 1999).
use Rattle.std.specs.Prelude.{ℕ, Bool, ◌==◌, ◌≤◌, ◌↔◌, nat_le, List, Contains, count_by}
use Rattle.std.specs.Cmp.Lexicographic.{slice_cmp}
use Rattle.std.specs.List.Sorted.{IsStrictlySortedBy}
use Rattle.std.specs.Ordering.{nat_cmp}
use Rattle.gf256.specs.Polynomial.{val, IsPolynomial}

-- at how many of the points phi takes the second member at the first
unfoldable pub agreements : List ℕ → List (ℕ × ℕ) → ℕ
agreements phi points = count_by (λ p. val phi p.0 == p.1) points

-- whether it does so at h of them or more
abbrev pub has_agreed : List (ℕ × ℕ) → ℕ → List ℕ → Bool
has_agreed points h phi = nat_le h (agreements phi points)

-- the list has the polynomials of degree at most t, as t + 1 bytes, that agree with at least h of the points, each once and
-- ascending
pub record ListsAgreeing (list : List (List ℕ)) (points : List (ℕ × ℕ)) (t h : ℕ) : Type 0 where
  pub ascending : IsStrictlySortedBy (slice_cmp nat_cmp) list
  pub exact : (phi : List ℕ) → Contains list phi ↔ (IsPolynomial t phi × (h ≤ agreements phi points))
