-- A vector that the table of the conditions sends to zero, cut into rows, is an interpolating polynomial.
use Rattle.std.proofs.Common.{◌≡◌, ◌≢◌, ℕ, zero, suc, ◌+◌, ◌-◌, ◌*◌, ◌<◌, ◌≤◌, List, [], length, get_or, drop, sum, refl, sym, ap, ap₂, subst, ◌∙◌, arith, inl, inr, add-one, length-take, length-drop, get_or-take, get_or-drop}
use Rattle.std.proofs.lemmas.Bool.{cases_lt}
use Rattle.std.proofs.lemmas.List.{take_all, get_or_past}
use Rattle.gf256.specs.Field.{◌⊕◌, ◌⊗◌, power}
use Rattle.gf256.specs.Sums.{sum_to}
use Rattle.gf256.specs.Polynomial.{coef}
use Rattle.gf256.proofs.FieldLaws.{ring}
use Rattle.gf256.proofs.Sums.{sum_to-same, sum_to-append}
use Rattle.bi_poly.specs.Rows.{row, cell, IsZero}
use Rattle.bi_poly.specs.Hasse.{binomial_parity, hasse}
use Rattle.linear_solve.specs.Matrix.{Matrix, entry}
use Rattle.linear_solve.specs.Kernel.{component, inner, IsKernelVector}
use Rattle.gs_interpolate.specs.Conditions.{derivative_of, AreConditions}
use Rattle.interpolation.specs.Interpolant.{IsInterpolant}
use Rattle.gs_interpolate.specs.Layout.{start, IsLayout, IsEquation, IsCut}
use Rattle.gs_interpolate.specs.declared.condition.Condition.{Condition}
use Rattle.gs_interpolate.proofs.Layouts.{start-next, start-within, located}

-- a sum over the places is a sum over the rows of the sums over each
sum_to-rows : (f : ℕ → ℕ) (ns : List ℕ) (n : ℕ) → n ≤ length ns
    → sum_to f (start ns n) ≡ sum_to (λ j. sum_to (λ i. f (start ns j + i)) (get_or ns j 0)) n
unfolding sum_to
sum_to-rows f ns zero l = refl
sum_to-rows f ns (suc n) l =
    ap (sum_to f) (ap (start ns) (sym (add-one n)) ∙ start-next ns n (omega arith))
    ∙ sum_to-append f (start ns n) (get_or ns n 0)
    ∙ ap (λ x. x ⊕ sum_to (λ i. f (start ns n + i)) (get_or ns n 0)) (sum_to-rows f ns n (omega arith))

-- the places of all rows
start-all : (ns : List ℕ) → start ns (length ns) ≡ sum ns
start-all ns = ap sum (take_all (length ns) ns (omega arith))

-- the coefficients of the rows
cut-row : (q : List (List ℕ)) (ns v : List ℕ) (j : ℕ) → IsCut q ns v → sum ns ≤ length v → j < length ns → length (row q j) ≡ get_or ns j 0
cut-row q ns v j cut room l =
    let n = get_or ns j 0 in
    let inside = start-within ns j l in
    ap length (cut.each j l) ∙ length-take n (drop (start ns j) v) ∙ omega (arith, inside, length-drop (start ns j) v)

-- and the coefficients are those of the vector
cut-cell : (q : List (List ℕ)) (ns v : List ℕ) (j i : ℕ) → IsCut q ns v → j < length ns → i < get_or ns j 0 → cell q j i ≡ component v (start ns j + i)
unfolding cell coef component
cut-cell q ns v j i cut l h =
    ap (λ r. get_or r i 0) (cut.each j l) ∙ get_or-take (get_or ns j 0) (drop (start ns j) v) i 0 h ∙ get_or-drop (start ns j) v i 0

-- a term of the derivative of a polynomial
term : (c : Condition) (x i j : ℕ)
    → derivative_of c i j ⊗ x ≡ binomial_parity i c.u ⊗ binomial_parity j c.v ⊗ x ⊗ power c.a (i - c.u) ⊗ power c.b (j - c.v)
unfolding derivative_of
term c x i j = simp ring

-- what the equation says of the vector is what the condition says of the polynomial
inner-hasse : (f : ℕ → ℕ) (q : List (List ℕ)) (ns v : List ℕ) (c : Condition) → IsCut q ns v → sum ns ≤ length v
    → ((j i : ℕ) → j < length ns → i < get_or ns j 0 → f (start ns j + i) ≡ derivative_of c i j)
    → inner f v (sum ns) ≡ hasse q c.u c.v c.a c.b
unfolding inner hasse
inner-hasse f q ns v c cut room e =
    let at = λ (j i : ℕ). start ns j + i in
    let same = λ (j : ℕ) (l : j < length ns).
    sum_to-same (λ i. f (at j i) ⊗ component v (at j i))
    (λ i. binomial_parity i c.u ⊗ binomial_parity j c.v ⊗ cell q j i ⊗ power c.a (i - c.u) ⊗ power c.b (j - c.v)) (get_or ns j 0)
    (λ i h. ap₂ ◌⊗◌ (e j i l h) (sym (cut-cell q ns v j i cut l h)) ∙ term c (cell q j i) i j)
    ∙ ap (sum_to _) (sym (cut-row q ns v j cut room l)) in
    ap (sum_to (λ k. f k ⊗ component v k)) (sym (start-all ns))
    ∙ sum_to-rows (λ k. f k ⊗ component v k) ns (length ns) (omega arith)
    ∙ sum_to-same _ _ (length ns) same
    ∙ ap (sum_to _) (sym cut.rows)

-- past the last row there is none
past-row : (q : List (List ℕ)) (j : ℕ) → length q ≤ j → row q j ≡ []
past-row q j l = get_or_past q j [] l

-- past the last coefficient of a row there is none
past-cell : (q : List (List ℕ)) (j i : ℕ) → length (row q j) ≤ i → cell q j i ≡ 0
unfolding cell coef
past-cell q j i l = get_or_past (row q j) i 0 l

-- What elimination makes: the conditions, the lengths of the rows, the table, a vector that it sends to zero, and its rows.
pub record IsSolved (points : List (ℕ × ℕ)) (m t d : ℕ) (cs : List Condition) (ns : List ℕ) (table : Matrix) (v : List ℕ) (q : List (List ℕ)) : Type 0 where
  pub conditions : AreConditions points m cs
  pub layout : IsLayout ns (length cs + 1) t d
  pub height : table.rows ≡ length cs
  pub width : table.cols ≡ length cs + 1
  pub equations : (r : ℕ) (c : Condition) → r < length cs → IsEquation table r ns (get_or cs r c)
  pub kernel : IsKernelVector v table
  pub cut : IsCut q ns v

module _ (points : List (ℕ × ℕ)) (m t d : ℕ) (cs : List Condition) (ns : List ℕ) (table : Matrix) (v : List ℕ) (q : List (List ℕ)) (s : IsSolved points m t d cs ns table v q) where
  -- the rows have a place for each column
  all_places : sum ns ≡ table.cols
  all_places = s.layout.sum ∙ sym s.width

  -- so the vector has all their coefficients
  room : sum ns ≤ length v
  room = let size = s.kernel.size in let all = all_places in omega arith

  -- each row is as long as it was planned
  row-length : (j : ℕ) → j < length ns → length (row q j) ≡ get_or ns j 0
  row-length j l = cut-row q ns v j s.cut room l

  -- some coefficient is not 0
  nonzero : ¬ IsZero q
  nonzero z =
      let k = s.kernel.nonzero in
      let at = located ns k.0 (let l = k.1 in let all = all_places in omega arith) in
      k.2 (ap (component v) (sym at.place) ∙ sym (cut-cell q ns v at.j at.i s.cut at.row at.inside) ∙ z at.j at.i)

  -- none has a greater weight
  light : (j i : ℕ) → cell q j i ≢ 0 → i + t * j ≤ d
  light j i nz =
      let rows = s.cut.rows in
      elim (cases_lt j (length ns)) [
        | inl l ↦
            let long = row-length j l in
            elim (cases_lt i (get_or ns j 0)) [
              | inl h ↦ let within = s.layout.within j l in omega arith
              | inr h ↦ absurd (nz (past-cell q j i (omega arith)))
            ]
        | inr l ↦
            let none = ap length (past-row q j (omega arith)) in
            absurd (nz (past-cell q j i (omega arith)))
      ]

  -- each condition holds
  met : (r : ℕ) (c : Condition) → r < length cs → get_or cs r c ≡ c → hasse q c.u c.v c.a c.b ≡ 0
  met r c l e =
      let height = s.height in
      sym (inner-hasse (entry table r) q ns v c s.cut room (subst (IsEquation table r ns) e (s.equations r c l)))
      ∙ ap (inner (entry table r) v) all_places
      ∙ s.kernel.sent_to_zero r (omega arith)

  -- no row is longer than the first can be
  short : (j : ℕ) → length (row q j) ≤ d + 1
  short j =
      let rows = s.cut.rows in
      elim (cases_lt j (length ns)) [
        | inl l ↦ let long = row-length j l in let within = s.layout.within j l in omega arith
        | inr l ↦ let none = ap length (past-row q j (omega arith)) in omega arith
      ]

  -- so the rows of the vector are what interpolation promises
  pub interpolant : IsInterpolant q points m t d
  interpolant = record {
    nonzero = nonzero;
    weighted_degree = light;
    zeros = λ k p l u v h. let at = s.conditions.each k p l u v h in met at.0 _ at.1 at.2;
    rows = let rows = s.cut.rows in let few = s.layout.rows in omega arith;
    each = short;
  }
