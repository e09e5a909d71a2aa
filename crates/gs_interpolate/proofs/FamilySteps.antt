-- A step in the rows of the polynomials, with the pivot p, is a step of the iteration, and a window follows it.
use Rattle.std.proofs.Common.{◌≡◌, ◌≢◌, ℕ, zero, suc, ◌+◌, ◌-◌, ◌*◌, ◌%◌, ◌<◌, ◌≤◌, List, [], length, get_or, refl, sym, ap, ap₂, ◌∙◌, subst, arith, inl, inr, get_or-set_same, get_or-set_other}
use Rattle.std.proofs.Math.Nat.{mul-le-mul_right}
use Rattle.std.proofs.lemmas.Bool.{cases_lt, cases_eq}
use Rattle.std.proofs.lemmas.List.{get_or_past}
use Rattle.gf256.specs.Field.{◌⊕◌, ◌⊗◌}
use Rattle.gf256.proofs.Xor.{add_zero, zero_add, add_self}
use Rattle.gf256.proofs.FieldLaws.{mul_zero, zero_mul, mul_comm}
use Rattle.bi_poly.specs.Rows.{row, cell}
use Rattle.bi_poly.specs.Hasse.{hasse}
use Rattle.gs_interpolate.specs.Family.{member, multiplier, preceding, IsFamilyStep, IsRowStep}
use Rattle.gs_interpolate.specs.Window.{Derivatives, condition_at, derivative, with_cells, window_row, IsWindow, IsWindowStep}
use Rattle.gs_interpolate.specs.Basis.{Polynomials, with_rows, polynomial, weight, factor, raised_at, reach, AreValues, IsBasis, IsLight, IsLightWindow, IsRaised, IsStep, IsWithMultiple}
use Rattle.gs_interpolate.proofs.Combinations.{hasse-multiple, hasse-raised_first, hasse-raised_later}
use Rattle.gs_interpolate.proofs.Places.{cell-member}
use Rattle.gs_interpolate.proofs.RowSteps.{row-pivot, row-others, row-rest}

-- past the last row there is no coefficient
past-cell : (n : ℕ) (rows : List (List ℕ)) (g j i : ℕ) → 1 ≤ n → length rows ≤ j → cell (member n rows g) j i ≡ 0
past-cell n rows g j i some l = cell-member n rows g j i some ∙ ap (λ r. get_or r (i * n + g) 0) (get_or_past rows j [] l)

-- What a step in the rows is about: the polynomials, the new rows, a factor for each lane, the pivot, which is light, and what
-- it is multiplied by x less.
pub record IsPivotStep (s : Polynomials) (made : List (List ℕ)) (factors : List ℕ) (p a : ℕ) : Type 0 where
  pub basis : IsBasis s
  pub inside : p < length s.rows
  pub light : IsLight s p
  pub lanes : length factors ≡ s.lanes
  pub own : multiplier factors p ≡ a
  pub rows : IsFamilyStep factors p s.t (reach s p) made s.rows

module _ {s : Polynomials} {made : List (List ℕ)} {factors : List ℕ} {p a : ℕ} (step : IsPivotStep s made factors p a) where
  -- there is a lane
  some : 1 ≤ s.lanes
  some = let basis = step.basis in let wide = basis.wide in let i = step.inside in omega (arith, wide, i)

  -- there are as many rows
  as_many : length made ≡ length s.rows
  as_many = let rows = step.rows in rows.size

  -- the pivot has no coefficient past its leading monomial
  past-leading : (j i : ℕ) → weight s p < i + s.t * j → cell (polynomial s p) j i ≡ 0
  past-leading j i l =
      let basis = step.basis in
      let led = basis.each p step.inside step.light in
      let leads = led.leads in
      leads.last j i (inl l)

  -- nor where nothing is changed
  past-pivot : (j i : ℕ) → reach s p ≤ i + s.t * j → cell (polynomial s p) j i ≡ 0
  past-pivot j i l = past-leading j i (let low = step.light in omega (arith, low, l))

  -- nothing is changed there
  kept : (j i g : ℕ) → j < length s.rows → reach s p - s.t * j ≤ i → get_or (row made j) (i * s.lanes + g) 0 ≡ cell (polynomial s g) j i
  kept j i g h l =
      let rows = step.rows in
      let past = mul-le-mul_right s.lanes l in
      row-rest s.lanes (rows.each j h) step.lanes (i * s.lanes + g) (omega (arith, past)) ∙ sym (cell-member s.lanes s.rows g j i some)

  -- a multiple of the pivot is added to each other polynomial
  pub others-added : (c g : ℕ) → g < length s.rows → g ≢ p → get_or factors g 0 ≡ c
      → IsWithMultiple (member s.lanes made g) (polynomial s g) (polynomial s p) c
  others-added c g l o is j i =
      let n = s.lanes in
      elim (cases_lt j (length s.rows)) [
        | inl h ↦
            let rows = step.rows in
            let basis = step.basis in
            let wide = basis.wide in
            cell-member n made g j i some
            ∙ elim (cases_lt i (reach s p - s.t * j)) [
              | inl m ↦
                  row-others n (rows.each j h) step.lanes i g m (omega (arith, l, wide)) o
                  ∙ ap₂ ◌⊕◌ (sym (cell-member n s.rows g j i some)) (ap₂ ◌⊗◌ (sym (cell-member n s.rows p j i some)) is ∙ mul_comm _ _)
              | inr m ↦
                  kept j i g h m
                  ∙ sym (ap (λ x. cell (polynomial s g) j i ⊕ c ⊗ x) (past-pivot j i (omega (arith, m)))
                  ∙ ap (◌⊕◌ (cell (polynomial s g) j i)) (mul_zero c) ∙ add_zero _)
            ]
        | inr h ↦
            past-cell n made g j i some (let size = as_many in omega (arith, size, h))
            ∙ sym (ap₂ (λ x y. x ⊕ c ⊗ y) (past-cell n s.rows g j i some h) (past-cell n s.rows p j i some h)
            ∙ ap (◌⊕◌ 0) (mul_zero c) ∙ add_zero 0)
      ]

  -- where the pivot stays light, its constant is multiplied by a
  raised-first : weight s p + 1 ≤ s.d → (j : ℕ) → cell (member s.lanes made p) j 0 ≡ cell (polynomial s p) j 0 ⊗ a
  unfolding preceding
  raised-first still j =
      let n = s.lanes in
      elim (cases_lt j (length s.rows)) [
        | inl h ↦
            let rows = step.rows in
            cell-member n made p j 0 some
            ∙ elim (cases_lt 0 (reach s p - s.t * j)) [
              | inl m ↦
                  row-pivot n a (rows.each j h) step.lanes step.own 0 m ∙ zero_add _
                  ∙ ap (λ x. x ⊗ a) (sym (cell-member n s.rows p j 0 some))
              | inr m ↦
                  let none = past-pivot j 0 (omega (arith, m)) in
                  kept j 0 p h m ∙ none ∙ sym (ap (λ x. x ⊗ a) none ∙ zero_mul a)
            ]
        | inr h ↦
            past-cell n made p j 0 some (let size = as_many in omega (arith, size, h))
            ∙ sym (ap (λ x. x ⊗ a) (past-cell n s.rows p j 0 some h) ∙ zero_mul a)
      ]

  -- and what was before a power of x is added to the next
  raised-later : weight s p + 1 ≤ s.d → (j i : ℕ)
      → cell (member s.lanes made p) j (suc i) ≡ cell (polynomial s p) j i ⊕ cell (polynomial s p) j (suc i) ⊗ a
  unfolding preceding
  raised-later still j i =
      let n = s.lanes in
      elim (cases_lt j (length s.rows)) [
        | inl h ↦
            let rows = step.rows in
            cell-member n made p j (suc i) some
            ∙ elim (cases_lt (suc i) (reach s p - s.t * j)) [
              | inl m ↦
                  row-pivot n a (rows.each j h) step.lanes step.own (suc i) m
                  ∙ ap₂ (λ x y. x ⊕ y ⊗ a) (sym (cell-member n s.rows p j i some)) (sym (cell-member n s.rows p j (suc i) some))
              | inr m ↦
                  let none = past-leading j i (omega (arith, still, m)) in
                  let none-2 = past-pivot j (suc i) (omega (arith, m)) in
                  kept j (suc i) p h m ∙ none-2
                  ∙ sym (ap₂ (λ x y. x ⊕ y ⊗ a) none none-2 ∙ ap (◌⊕◌ 0) (zero_mul a) ∙ add_zero 0)
            ]
        | inr h ↦
            past-cell n made p j (suc i) some (let size = as_many in omega (arith, size, h))
            ∙ sym (ap₂ (λ x y. x ⊕ y ⊗ a) (past-cell n s.rows p j i some h) (past-cell n s.rows p j (suc i) some h)
            ∙ ap (◌⊕◌ 0) (zero_mul a) ∙ add_zero 0)
      ]

  -- so it is multiplied by x - a
  pub pivot-raised : weight s p + 1 ≤ s.d → IsRaised (member s.lanes made p) (polynomial s p) a
  pivot-raised still = record { first = raised-first still; later = raised-later still }

  -- the pivot stays light where it is light with its new exponent
  pub still_light : (raised : List ℕ) → raised ≡ raised_at s.exponents p → IsLight (with_rows s made raised) p → weight s p + 1 ≤ s.d
  still_light raised up low =
      let basis = step.basis in
      let size = basis.size in
      let inside = step.inside in
      let same =
      ap (λ xs. get_or xs p 0) up
      ∙ get_or-set_same s.exponents p (get_or s.exponents p 0 + 1) 0 (omega (arith, size, inside)) in
      omega (arith, same, low)

  -- another that is light was light
  pub was_light : (raised : List ℕ) (g : ℕ) → raised ≡ raised_at s.exponents p → g ≢ p → IsLight (with_rows s made raised) g → IsLight s g
  was_light raised g up other low =
      let same = ap (λ xs. get_or xs g 0) up ∙ get_or-set_other s.exponents p g (get_or s.exponents p 0 + 1) 0 other in
      omega (arith, same, low)

  -- with the factors that take the values away it is a step of the iteration
  pub is_step : (raised vs : List ℕ) → raised ≡ raised_at s.exponents p
      → ((j : ℕ) → j < length s.rows → j ≢ p → get_or factors j 0 ≡ factor vs p j) → IsStep s (with_rows s made raised) vs a p
  is_step raised vs up is =
      let rows = step.rows in
      let basis = step.basis in
      record {
        size = rows.size;
        whole = λ j l.
            let before = basis.whole j (let size = as_many in omega (arith, l, size)) in
            subst (λ n. length (row made j) % n ≡ 0) step.lanes
            (rows.whole j (let size = as_many in omega (arith, l, size))
            (subst (λ n. length (row s.rows j) % n ≡ 0) (sym step.lanes) before));
        exponents = up;
        pivot = λ low. pivot-raised (still_light raised up low);
        others = λ j l o _. others-added (factor vs p j) j l o (is j l o);
      }

-- a window at the point, of which the rows from v on take the step, with 1 as the pivot's own factor
module _ {s : Polynomials} {made : List (List ℕ)} {factors : List ℕ} {p : ℕ} (w : Derivatives) (step : IsPivotStep s made factors p w.a)
    (v : ℕ) (now own raised : List ℕ) (up : raised ≡ raised_at s.exponents p) (window : IsLightWindow s w v)
    (change : IsWindowStep own p w.m now w.cells v) (lanes : length own ≡ w.lanes) (shift : multiplier own p ≡ 0)
    (alike : (g : ℕ) → g ≢ p → get_or own g 0 ≡ get_or factors g 0) where
  -- the step of one row
  turn : (k : ℕ) → v ≤ k → k < w.m → IsRowStep own p (window_row w.lanes w.m now k) (window_row w.lanes w.m w.cells k) (w.m - k)
  turn k from l =
      subst (λ n. IsRowStep own p (window_row n w.m now k) (window_row n w.m w.cells k) (w.m - k)) lanes (change.each k from l)

  -- the pivot's derivatives
  follows_pivot : weight s p + 1 ≤ s.d → (u k : ℕ) → v ≤ k → u + k < w.m
      → derivative (with_cells w now) u k p ≡ hasse (member s.lanes made p) u k w.a w.b
  unfolding preceding
  follows_pivot still zero k from l =
      let basis = step.basis in
      let led = basis.each p step.inside step.light in
      row-pivot w.lanes 0 (turn k from (omega (arith, l))) lanes shift 0 (omega (arith, l)) ∙ zero_add _ ∙ mul_zero _
      ∙ sym (hasse-raised_first (member s.lanes made p) (polynomial s p) w.a k w.a w.b (pivot-raised step still) led.bytes
      ∙ ap (λ x. x ⊗ hasse (polynomial s p) 0 k w.a w.b) (add_self w.a) ∙ zero_mul _)
  follows_pivot still (suc u) k from l =
      let basis = step.basis in
      let led = basis.each p step.inside step.light in
      row-pivot w.lanes 0 (turn k from (omega (arith, l))) lanes shift (suc u) (omega (arith, l))
      ∙ ap₂ ◌⊕◌ (window.each u k p from (omega (arith, l)) step.inside step.light) (mul_zero _)
      ∙ sym (hasse-raised_later (member s.lanes made p) (polynomial s p) w.a u k w.a w.b (pivot-raised step still) led.bytes
      ∙ ap (λ x. hasse (polynomial s p) u k w.a w.b ⊕ x ⊗ hasse (polynomial s p) (suc u) k w.a w.b) (add_self w.a)
      ∙ ap (◌⊕◌ (hasse (polynomial s p) u k w.a w.b)) (zero_mul _))

  -- another's derivatives
  follows_other : (u k g : ℕ) → v ≤ k → u + k < w.m → g < length s.rows → g ≢ p → IsLight s g
      → derivative (with_cells w now) u k g ≡ hasse (member s.lanes made g) u k w.a w.b
  follows_other u k g from l here other low =
      let basis = step.basis in
      let wide = basis.wide in
      let same = window.lanes in
      let c = get_or factors g 0 in
      row-others w.lanes (turn k from (omega (arith, l))) lanes u g (omega (arith, l)) (omega (arith, here, wide, same)) other
      ∙ ap₂ (λ x y. x ⊕ y ⊗ get_or own g 0) (window.each u k g from l here low) (window.each u k p from l step.inside step.light)
      ∙ ap (λ f. hasse (polynomial s g) u k w.a w.b ⊕ hasse (polynomial s p) u k w.a w.b ⊗ f) (alike g other)
      ∙ ap (◌⊕◌ (hasse (polynomial s g) u k w.a w.b)) (mul_comm _ c)
      ∙ sym (hasse-multiple (member s.lanes made g) (polynomial s g) (polynomial s p) c u k w.a w.b
      (others-added step c g here other refl))

  -- so it has the derivatives of the new polynomials
  pub window-follows : IsLightWindow (with_rows s made raised) (with_cells w now) v
  window-follows = record {
    lanes = window.lanes;
    each = λ u k g from l h low.
        let size = as_many step in
        let here : g < length s.rows = omega (arith, size, h) in
        elim (cases_eq g p) [
          | inl same ↦
              subst (λ g. derivative (with_cells w now) u k g ≡ hasse (member s.lanes made g) u k w.a w.b) (sym same)
              (follows_pivot (still_light step raised up (subst (IsLight (with_rows s made raised)) same low)) u k from l)
          | inr other ↦ follows_other u k g from l here other (was_light step raised g up other low)
        ];
  }

-- the derivatives of all polynomials are those of the light ones
pub light_window : (s : Polynomials) (w : Derivatives) (m a b : ℕ) → IsWindow s.lanes m a b s.rows w → IsLightWindow s w 0
light_window s w m a b window = record {
  lanes = window.lanes;
  each = λ u k g from l inside _.
      window.each u k g (subst (λ m. u + k < m) window.order l) inside
      ∙ sym (ap₂ (λ x y. hasse (polynomial s g) u k x y) window.first window.second);
}

-- the values of a condition are in the window
pub values-of_window : (s : Polynomials) (w : Derivatives) (u v : ℕ) (vs : List ℕ) → IsBasis s → u + v < w.m
    → ((g : ℕ) → g < w.lanes → get_or vs g 0 ≡ derivative w u v g) → IsLightWindow s w v → AreValues s (condition_at w u v) vs
values-of_window s w u v vs basis l same window =
    λ g here low.
    let wide = basis.wide in
    let lanes = window.lanes in
    same g (omega (arith, here, wide, lanes)) ∙ window.each u v g (omega arith) l here low
