-- The y-roots of a polynomial in two variables (Roth and Ruckenstein 2000).
use Rattle.std.specs.Prelude.{◌≡◌, ℕ, ◌<◌, ◌↔◌, List, Contains}
use Rattle.std.specs.Cmp.Lexicographic.{slice_cmp}
use Rattle.std.specs.List.Sorted.{IsStrictlySortedBy}
use Rattle.std.specs.Ordering.{nat_cmp}
use Rattle.gf256.specs.Polynomial.{IsPolynomial}
use Rattle.bi_poly.specs.Rows.{cell}
use Rattle.bi_poly.specs.Substitution.{at_poly_coef}

-- q(x, phi(x)) is 0
abbrev pub IsYRoot : List (List ℕ) → List ℕ → Type 0
IsYRoot q phi = (e : ℕ) → at_poly_coef q phi e ≡ 0

-- the roots are the y-roots of q of degree at most t, each once and ascending
pub record ListsYRoots (roots q : List (List ℕ)) (t : ℕ) : Type 0 where
  pub ascending : IsStrictlySortedBy (slice_cmp nat_cmp) roots
  pub exact : (phi : List ℕ) → Contains roots phi ↔ (IsPolynomial t phi × IsYRoot q phi)

-- the degree in y is at most d: all rows above d are 0
abbrev pub HasDegreeInYAtMost : List (List ℕ) → ℕ → Type 0
HasDegreeInYAtMost q d = (j i : ℕ) → d < j → cell q j i ≡ 0
