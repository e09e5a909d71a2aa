-- The tree of the roots' coefficients (Roth and Ruckenstein 2000): a node has a polynomial in two variables, and below it
-- are the y-roots of that polynomial, each after the coefficients on the way to the node.
use Rattle.std.specs.Prelude.{◌≡◌, ℕ, ◌+◌, ◌<◌, ◌≤◌, ◌↔◌, List, [], ◌∷◌, ◌++◌, length, map, All, Contains}
use Rattle.std.specs.Cmp.Lexicographic.{slice_cmp}
use Rattle.std.specs.List.Sorted.{IsStrictlySortedBy}
use Rattle.std.specs.Ordering.{nat_cmp}
use Rattle.uni_poly.specs.Coefficients.{HasDegreeBelow}
use Rattle.bi_poly.specs.Rows.{column, IsZero, AreBytes}
use Rattle.bi_poly.specs.Degree.{IsOrderInX, without_first}
use Rattle.rr_roots.specs.Roots.{IsYRoot}
use Rattle.rr_roots.specs.Values.{ArePowers, AreValues}
use Rattle.rr_roots.specs.declared.descent.Walk.{Walk}

-- phi is a y-root of q of n bytes
pub record IsRootOfSize (q : List (List ℕ)) (n : ℕ) (phi : List ℕ) : Type 0 where
  pub size : length phi ≡ n
  pub bytes : All (λ c. c < 256) phi
  pub root : IsYRoot q phi

-- the lists are those of which P holds, each once and ascending
pub record ListsAll (P : List ℕ → Type 0) (lists : List (List ℕ)) : Type 0 where
  pub ascending : IsStrictlySortedBy (slice_cmp nat_cmp) lists
  pub exact : (phi : List ℕ) → Contains lists phi ↔ P phi

-- the new lists are the old ones and then those of which P holds, ascending, each after the prefix
pub record Appends (P : List ℕ → Type 0) (prefix : List ℕ) (old new : List (List ℕ)) : Type 0 where
  pub found : List (List ℕ)
  pub all : ListsAll P found
  pub appended : new ≡ old ++ map (λ phi. prefix ++ phi) found

-- to the roots of the walk the y-roots of q of n bytes were appended, ascending and each after its prefix, which stays
pub record AppendsRoots (q : List (List ℕ)) (n : ℕ) (old new : Walk) : Type 0 where
  pub kept : new.prefix.items ≡ old.prefix.items
  pub appends : Appends (IsRootOfSize q n) old.prefix.items (map (λ r. r.items) old.roots.items) (map (λ r. r.items) new.roots.items)

-- and those of one byte that is gamma, or none, after the same prefix
pub record AppendsLast (q : List (List ℕ)) (gamma : ℕ) (old new : Walk) : Type 0 where
  pub kept : new.prefix.items ≡ old.prefix.items
  pub appends : Appends (λ psi. IsRootOfSize q 1 (gamma ∷ psi)) (old.prefix.items ++ gamma ∷ [])
      (map (λ r. r.items) old.roots.items) (map (λ r. r.items) new.roots.items)

-- there are more roots than before
abbrev pub HasMoreRoots : Walk → Walk → Type 0
HasMoreRoots new old = length old.roots.items < length new.roots.items

-- the lowest column of q that isn't 0, a polynomial in y, has a degree of at most d
abbrev pub HasLowestColumnDegreeAtMost : List (List ℕ) → ℕ → Type 0
HasLowestColumnDegreeAtMost q d = (r : ℕ) → IsOrderInX q r → HasDegreeBelow (column q r) (d + 1)

-- q is not 0, and there is a row of the powers of all bytes for each of its rows
pub record IsNode (q powers : List (List ℕ)) : Type 0 where
  pub nonzero : ¬ IsZero q
  pub enough : length q ≤ length powers
  pub powers_are : ArePowers powers

-- q is the polynomial of a node, divided by the greatest power of x that divides it
pub record IsStripped (whole q : List (List ℕ)) (r : ℕ) : Type 0 where
  pub order : IsOrderInX whole r
  pub quotient : q ≡ without_first r whole
  pub bytes : AreBytes q

-- and the values are those of what then stands in it before x^0
pub record IsOpened (whole q : List (List ℕ)) (values : List ℕ) : Type 0 where
  pub power : ℕ
  pub stripped : IsStripped whole q power
  pub values_are : AreValues values (column q 0)
