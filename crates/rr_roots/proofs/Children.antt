-- A node of the tree and its children: from the y-roots of a child to those of the node that begin with its byte (Roth and
-- Ruckenstein 2000).
use Rattle.std.proofs.Common.{◌≡◌, ◌↔◌, ℕ, suc, ◌+◌, ◌-◌, ◌<◌, ◌≤◌, List, [], ◌∷◌, length, drop, sym, ap, ap₂, subst, ◌∙◌, inl, inr, arith}
use Rattle.std.proofs.lemmas.Bool.{cases_lt}
use Rattle.std.proofs.lemmas.List.{length-map}
use Rattle.std.proofs.lemmas.List.Elements.{All-cons, All-tail}
use Rattle.gf256.specs.Field.{◌⊕◌, ◌⊗◌}
use Rattle.gf256.specs.Polynomial.{coef, val}
use Rattle.gf256.proofs.FieldLaws.{mul_one}
use Rattle.uni_poly.specs.Coefficients.{IsBytes, HasDegreeBelow}
use Rattle.uni_poly.specs.Coefficients as one
use Rattle.uni_poly.proofs.Series.{times}
use Rattle.uni_poly.proofs.Coefficients.{IsBytes-from_all}
use Rattle.uni_poly.proofs.Values.{val_nil, val_cons}
use Rattle.bi_poly.specs.Rows.{cell, column, IsZero, AreBytes}
use Rattle.bi_poly.specs.Substitution.{at_poly_coef, IsShiftedRoot}
use Rattle.bi_poly.proofs.Composition.{at_series, at_poly_coef-series}
use Rattle.bi_poly.proofs.Degree.{coef-column}
use Rattle.bi_poly.proofs.Peeling.{peeled, spread, spread-low, spread-high, stripped-at_poly, zero_from_shifted}
use Rattle.bi_poly.proofs.Strip.{cell-without_first}
use Rattle.rr_roots.specs.Roots.{IsYRoot, HasDegreeInYAtMost}
use Rattle.rr_roots.specs.Descent.{IsRootOfSize, HasLowestColumnDegreeAtMost, IsStripped}
use Rattle.rr_roots.proofs.Multiplicities.{multiplicity, taylor-multiplicity}

-- ---- the first coefficient

-- it is a byte
first_byte : (q : List (List ℕ)) (n : ℕ) (phi : List ℕ) → IsRootOfSize q n phi → coef phi 0 < 256
first_byte q n phi h = IsBytes-from_all phi h.bytes 0

-- where phi stands for y, the constant is the value, at the constant of phi, of what stands in q before x ^ 0
at_first : (q : List (List ℕ)) (g : ℕ) (psi : List ℕ) → AreBytes q → at_series q (coef (g ∷ psi)) 0 ≡ val (column q 0) g
unfolding at_series times cell coef
at_first [] g psi h = sym (val_nil g)
at_first (r ∷ q) g psi h =
    ap₂ (λ c v. c ⊕ g ⊗ v) (sym (mul_one (coef r 0) (h 0 0))) (at_first q g psi (λ j i. h (suc j) i)) ∙ sym (val_cons (coef r 0) (column q 0) g)

-- and after the last byte none is
pub first_is_below : (q : List (List ℕ)) (n g : ℕ) → 256 ≤ g → (phi : List ℕ) → IsRootOfSize q n phi → coef phi 0 < g
first_is_below q n g last phi h = omega (arith, last, first_byte q n phi h)

-- a root has a first coefficient
pub root_begins : (q : List (List ℕ)) (n : ℕ) → 0 < n → (phi : List ℕ) → IsRootOfSize q n phi → 0 < length phi
root_begins q n some phi h = subst (λ k. 0 < k) (sym h.size) some

-- ---- the degree in y

-- it bounds the degree of what stands before each power of x
pub lowest_degree : (q : List (List ℕ)) (d : ℕ) → HasDegreeInYAtMost q d → HasLowestColumnDegreeAtMost q d
lowest_degree q d h r order j l = coef-column q r j ∙ h j r (omega (arith, l))

-- ---- a node without the powers of x

module _ {whole q : List (List ℕ)} {r : ℕ} (s : IsStripped whole q r) where
  -- a coefficient
  cell-stripped : (j i : ℕ) → cell q j i ≡ cell whole j (r + i)
  cell-stripped j i = ap (λ q. cell q j i) s.quotient ∙ cell-without_first r whole j i

  -- the coefficients before x ^ 0
  constant-stripped : (j : ℕ) → coef (column q 0) j ≡ cell whole j r
  constant-stripped j = let e : r + 0 ≡ r = omega arith in coef-column q 0 j ∙ cell-stripped j 0 ∙ ap (cell whole j) e

  -- they are bytes
  pub constants-bytes : IsBytes (column q 0)
  constants-bytes j = subst (λ x. x < 256) (sym (coef-column q 0 j)) (s.bytes j 0)

  -- and not all of them are 0
  pub constants-nonzero : one.IsZero (column q 0) → ⊥
  constants-nonzero z = let (j, n) = s.order.reached in n (sym (constant-stripped j) ∙ z j)

  -- so that q is not 0
  pub stripped-nonzero : IsZero q → ⊥
  stripped-nonzero z = constants-nonzero (λ j. coef-column q 0 j ∙ z j 0)

  -- their degree
  pub constants-degree : (d : ℕ) → HasLowestColumnDegreeAtMost whole d → HasDegreeBelow (column q 0) (d + 1)
  constants-degree d h j l = constant-stripped j ∙ sym (coef-column whole r j) ∙ h r s.order j l

  -- the y-roots stay
  roots-stripped : (phi : List ℕ) → IsYRoot q phi ↔ IsYRoot whole phi
  roots-stripped phi =
      let at : (e : ℕ) → at_poly_coef whole phi e ≡ spread (at_poly_coef q phi) r e
      = λ e. subst (λ q. at_poly_coef whole phi e ≡ spread (at_poly_coef q phi) r e) (sym s.quotient) (stripped-at_poly whole r phi s.order e) in (
        λ h e. at e ∙ elim (cases_lt e r) [
          | inl low ↦ spread-low (at_poly_coef q phi) r e low
          | inr high ↦ spread-high (at_poly_coef q phi) r e high ∙ h (e - r)
        ],
        λ h e. let k : r + e - r ≡ e = omega arith in
            ap (at_poly_coef q phi) (sym k) ∙ sym (spread-high (at_poly_coef q phi) r (r + e) (omega arith)) ∙ sym (at (r + e)) ∙ h (r + e),
      )

  -- also those of so many bytes
  pub roots-of_size : (m n : ℕ) (phi : List ℕ) → m ≡ n → IsRootOfSize q m phi ↔ IsRootOfSize whole n phi
  roots-of_size m n phi same = (
    λ a. record { size = a.size ∙ same; bytes = a.bytes; root = (roots-stripped phi).0 a.root },
    λ b. record { size = b.size ∙ sym same; bytes = b.bytes; root = (roots-stripped phi).1 b.root },
  )

  -- a y-root begins with a root of them
  pub begins_with_root : (n : ℕ) (phi : List ℕ) → 0 < n → IsRootOfSize whole n phi → val (column q 0) (coef phi 0) ≡ 0
  unfolding coef
  begins_with_root n [] some h = let size = h.size in absurd (omega (arith, some, size))
  begins_with_root n (c ∷ psi) some h =
      sym (at_first q c psi s.bytes) ∙ sym (at_poly_coef-series q (c ∷ psi) 0) ∙ (roots-stripped (c ∷ psi)).1 h.root 0

  module _ {child : List (List ℕ)} {g : ℕ} (l : g < 256) (h : IsShiftedRoot q g child) where
    -- the child is not 0
    pub child-nonzero : IsZero child → ⊥
    child-nonzero z = stripped-nonzero (zero_from_shifted q child g s.bytes h z)

    -- it has as many rows as the node
    pub child-rows : (n : ℕ) → length whole ≤ n → length child ≤ n
    child-rows n fits = subst (λ k. k ≤ n) (sym (h.rows ∙ ap length s.quotient ∙ length-map whole (drop r))) fits

    -- its y-roots are those of the node that begin with g, without it
    pub child-roots : (n : ℕ) (psi : List ℕ) → 0 < n → IsRootOfSize child (n - 1) psi ↔ IsRootOfSize whole n (g ∷ psi)
    child-roots n psi some = (
      λ a. record {
        size = let size = a.size in omega (arith, some, size);
        bytes = All-cons (λ c. c < 256) g psi l a.bytes;
        root = (roots-stripped (g ∷ psi)).0 (λ e. sym (peeled q child g psi s.bytes h e) ∙ a.root e);
      },
      λ b. record {
        size = let size = b.size in omega (arith, some, size);
        bytes = All-tail (λ c. c < 256) g psi b.bytes;
        root = λ e. peeled q child g psi s.bytes h e ∙ (roots-stripped (g ∷ psi)).1 b.root e;
      },
    )

    -- what stands in it before the lowest power of x has at most the degree that g is a root of the node's often
    pub child-degree : HasLowestColumnDegreeAtMost child (multiplicity (column q 0) g)
    child-degree r order j m =
        let often = multiplicity (column q 0) g in
        let reached = taylor-multiplicity (column q 0) constants-bytes constants-nonzero g l in
        let early : r ≤ often = elim (cases_lt often r) [
          | inl late ↦
              let e : 0 + often ≡ often = omega arith in
              absurd (reached (sym (h.each often 0) ∙ ap (cell child often) e ∙ order.lowest often often late))
          | inr early ↦ early
        ] in
        coef-column child r j ∙ h.low j r (omega (arith, early, m))
