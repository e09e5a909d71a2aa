-- The steps from an echelon form back to a vector that its rows send to zero.
use Rattle.std.proofs.Common.{◌≡◌, ◌≢◌, ℕ, ◌<◌, List, length, get_or, set, replicate, sym, ap, ap₂, ◌∙◌, arith, inl, inr, get_or-set_other, get_or-set_same}
use Rattle.std.proofs.lemmas.Bool.{cases_lt, cases_eq}
use Rattle.std.proofs.lemmas.List.{get_or-replicate, get_or_past, length-replicate}
use Rattle.gf256.specs.Field.{◌⊕◌, ◌⊗◌}
use Rattle.gf256.proofs.Xor.{add_zero, zero_add, add_self}
use Rattle.gf256.proofs.FieldLaws.{zero_mul, one_mul}
use Rattle.linear_solve.specs.Kernel.{component, inner}
use Rattle.linear_solve.specs.Echelon.{row_at, IsEchelon}
use Rattle.linear_solve.proofs.InnerProducts.{inner-set, inner_lt}

-- the component in the column of row t becomes d, the inner product of the row with the vector before
module _ (cs : List ℕ) (rs : List (List ℕ)) (v : List ℕ) (n : ℕ) (E : IsEchelon cs rs n) (m : length v ≡ n) (t : ℕ) (l : t < length rs) (d : ℕ) (is : d ≡ inner (component (row_at rs t)) v n) where
  changed : (s : ℕ) → inner (component (row_at rs s)) (set v (get_or cs t 0) d) n ≡ inner (component (row_at rs s)) v n ⊕ component (row_at rs s) (get_or cs t 0) ⊗ (d ⊕ component v (get_or cs t 0))
  changed s =
      let c = E.inside t l in
      inner-set (component (row_at rs s)) v (get_or cs t 0) d n c (omega arith)

  -- then the row sends the vector to zero
  pub sends_this : component v (get_or cs t 0) ≡ 0 → inner (component (row_at rs t)) (set v (get_or cs t 0) d) n ≡ 0
  sends_this z =
      let o = inner (component (row_at rs t)) v n in
      changed t ∙ ap₂ (λ x y. o ⊕ x ⊗ (d ⊕ y)) (E.one t l) z
      ∙ ap (◌⊕◌ o) (ap (◌⊗◌ 1) (add_zero d ∙ is) ∙ one_mul o (inner_lt _ v n)) ∙ add_self o

  -- and a later row that sent the vector to zero still does
  pub sends_later : (s : ℕ) → t < s → s < length rs → inner (component (row_at rs s)) v n ≡ 0 → inner (component (row_at rs s)) (set v (get_or cs t 0) d) n ≡ 0
  sends_later s h k z =
      changed s ∙ ap₂ (λ x y. x ⊕ y ⊗ (d ⊕ component v (get_or cs t 0))) z (E.none t s h k) ∙ ap (◌⊕◌ 0) (zero_mul _) ∙ zero_add 0

-- no two rows have one column
pub other_column : (cs : List ℕ) (rs : List (List ℕ)) (n : ℕ) (E : IsEchelon cs rs n) (s t : ℕ) → s < t → t < length rs → get_or cs s 0 ≢ get_or cs t 0
other_column cs rs n E s t h l e =
    let z : component (row_at rs t) (get_or cs t 0) ≡ 0 = ap (component (row_at rs t)) (sym e) ∙ E.none s t h l in
    let o = E.one t l in
    omega (arith, sym z ∙ o)

-- a component that wasn't set
pub component-set_other : (v : List ℕ) (c d k : ℕ) → k ≢ c → component (set v c d) k ≡ component v k
unfolding component
component-set_other v c d k n = get_or-set_other v c k d 0 n

-- the component that was set
pub component-set_same : (v : List ℕ) (c d : ℕ) → c < length v → component (set v c d) c ≡ d
unfolding component
component-set_same v c d l = get_or-set_same v c d 0 l

-- a vector of bytes of which one component was set to a byte
pub component-set-lt : (v : List ℕ) (c d k : ℕ) → c < length v → d < 256 → component v k < 256 → component (set v c d) k < 256
component-set-lt v c d k l m h =
    elim (cases_eq k c) [
      | inl e ↦ rw (e, component-set_same v c d l) m
      | inr n ↦ rw (component-set_other v c d k n) h
    ]

-- a component of a vector of zeros
component-zeros : (n k : ℕ) → component (replicate n 0) k ≡ 0
unfolding component
component-zeros n k =
    elim (cases_lt k n) [
      | inl l ↦ get_or-replicate n k 0 0 l
      | inr l ↦ get_or_past (replicate n 0) k 0 (rw length-replicate l)
    ]

-- a vector of zeros but for one
module _ (v w : List ℕ) (n free : ℕ) (z : v ≡ replicate n 0) (e : w ≡ set v free 1) (l : free < n) where
  pub unit_other : (k : ℕ) → k ≢ free → component w k ≡ 0
  unit_other k d = ap (λ x. component x k) (e ∙ ap (λ x. set x free 1) z) ∙ component-set_other (replicate n 0) free 1 k d ∙ component-zeros n k

  pub unit_here : component w free ≡ 1
  unit_here = ap (λ x. component x free) (e ∙ ap (λ x. set x free 1) z) ∙ component-set_same (replicate n 0) free 1 (rw length-replicate l)

-- 1 isn't 0
pub one_not_zero : ◌≢◌ {A = ℕ} 1 0
one_not_zero e = omega arith
