-- The conditions at one point, imposed on whatever rows take the steps that are kept.
use Rattle.std.proofs.Common.{◌≡◌, Bool, true, false, ℕ, ◌+◌, ◌-◌, ◌<◌, ◌≤◌, List, length, set, sum, refl, sym, ap, subst, ◌∙◌, arith, inl, inr, length-set, get_or-set_same, get_or-set_other}
use Rattle.std.proofs.lemmas.Bool.{cases_eq}
use Rattle.gs_interpolate.specs.Window.{Derivatives, condition_at, with_cells}
use Rattle.gs_interpolate.specs.Steps.{KeptStep, step_at, HaveLanes, HaveTaken, TakeIf}
use Rattle.gs_interpolate.specs.Basis.{Polynomials, with_rows, FitWindow, Imposes, IsBasis, IsImposed, IsLightWindow, IsPassing}
use Rattle.gs_interpolate.specs.declared.condition.Condition.{Condition}
use Rattle.gs_interpolate.proofs.Passing.{IsUnder, orders, under-none, under-imposed, under-row, under-all}
use Rattle.gs_interpolate.proofs.Taking.{taken-alike, taken-none, rows-between}

-- the polynomials made are what the conditions before c make of s, and the window has their derivatives
pub record IsUnderBeside (s made : Polynomials) (w : Derivatives) (c : Condition) : Type 0 where
  pub under : IsUnder s made c w.m
  pub window : IsLightWindow made w c.v

-- so it is with these exponents for whatever rows took the first k of the steps
abbrev pub AreUnder : Polynomials → List ℕ → List KeptStep → ℕ → Derivatives → Condition → Type 0
AreUnder s exponents steps k w c = (rows : List (List ℕ)) → HaveTaken steps s.t k rows s.rows
    → IsUnderBeside s (with_rows s rows exponents) w c

-- another step has the place of one
step-set_same : (steps : List KeptStep) (k : ℕ) (step : KeptStep) → k < length steps → step_at (set steps k step) k ≡ step
step-set_same steps k step l = get_or-set_same steps k step _ l

-- and those before it stay
step-set_before : (steps : List KeptStep) (k : ℕ) (step : KeptStep) (i : ℕ) → i < k → step_at (set steps k step) i ≡ step_at steps i
step-set_before steps k step i l = get_or-set_other steps k i step _ (omega (arith, l))

-- all have as many lanes
pub have_lanes-set : (n : ℕ) (steps : List KeptStep) (k : ℕ) (step : KeptStep) → HaveLanes n steps → length step.factors ≡ n
    → HaveLanes n (set steps k step)
have_lanes-set n steps k step all one i l =
    let inside : i < length steps = let size = length-set steps k step in omega (arith, size, l) in
    elim (cases_eq i k) [
      | inl same ↦
          subst (λ j. length (step_at (set steps k step) j).factors ≡ n) (sym same)
          (ap (λ s. length s.factors) (step-set_same steps k step (subst (λ j. j < length steps) same inside)) ∙ one)
      | inr other ↦ ap (λ s. length s.factors) (get_or-set_other steps k i step _ other) ∙ all i inside
    ]

-- before any condition
pub kept-none : (s : Polynomials) (steps : List KeptStep) (w : Derivatives) → IsBasis s → IsLightWindow s w 0
    → AreUnder s s.exponents steps 0 w (condition_at w 0 0)
kept-none s steps w basis window rows done =
    subst (λ (rows : List (List ℕ)). IsUnderBeside s (with_rows s rows s.exponents) w (condition_at w 0 0)) (sym (taken-none steps s.t rows s.rows done))
    (record { under = under-none s (condition_at w 0 0) w.m refl refl basis; window = window })

-- One more: before it the polynomials are self, with the rows of s, and after it the exponents are new, and the window is made.
module _ (s self new : Polynomials) {w made : Derivatives} (taken : Bool) (step : KeptStep) (u v : ℕ) (order : u + v < w.m)
    (alike : self ≡ with_rows s s.rows self.exponents) (cells : made ≡ with_cells w made.cells)
    (imposed : Imposes taken step (condition_at w u v) (self, w) (new, made)) where
  -- rows that take the step, if there is one
  imposed-rows : (rows now : List (List ℕ)) → length rows ≡ length s.rows
      → IsUnderBeside s (with_rows s rows self.exponents) w (condition_at w u v) → TakeIf taken step s.t now rows
      → IsUnderBeside s (with_rows s now new.exponents) made (condition_at made (u + 1) v)
  imposed-rows rows now size before take =
      let under = before.under in
      let fit : FitWindow self w v rows = record {
        size = size ∙ sym (ap (λ x. length x.rows) alike);
        basis = subst (λ x. IsBasis (with_rows x rows self.exponents)) (sym alike) under.basis;
        window = subst (λ x. IsLightWindow (with_rows x rows self.exponents) w v) (sym alike) before.window;
      } in
      let is = imposed rows now fit (subst (λ x. TakeIf taken step x.t now rows) (sym alike) take) in
      let one = subst (λ x. IsImposed (with_rows x rows self.exponents) (with_rows x now new.exponents) (condition_at w u v)) alike is.imposed in
      record {
        under = subst (λ x. IsUnder s (with_rows s now new.exponents) (condition_at x (u + 1) v) x.m) (sym cells) (under-imposed under order one);
        window = subst (λ x. IsLightWindow (with_rows x now new.exponents) made v) alike is.window;
      }

-- a condition that takes no step, whatever stands at the place for one
pub kept-idle : (s self new : Polynomials) {w made : Derivatives} (steps : List KeptStep) (k : ℕ) (step : KeptStep) (u v : ℕ) → u + v < w.m
    → self ≡ with_rows s s.rows self.exponents → made ≡ with_cells w made.cells → Imposes false step (condition_at w u v) (self, w) (new, made)
    → AreUnder s self.exponents steps k w (condition_at w u v) → AreUnder s new.exponents (set steps k step) k made (condition_at made (u + 1) v)
kept-idle s self new steps k step u v order alike cells imposed before rows done =
    imposed-rows s self new false step u v order alike cells imposed rows rows done.size
    (before rows (taken-alike (set steps k step) steps s.t k rows s.rows (step-set_before steps k step) done)) refl

-- a condition that takes a step, which is kept
pub kept-next : (s self new : Polynomials) {w made : Derivatives} (steps : List KeptStep) (k : ℕ) (step : KeptStep) (u v : ℕ) → u + v < w.m
    → k < length steps → self ≡ with_rows s s.rows self.exponents → made ≡ with_cells w made.cells
    → Imposes true step (condition_at w u v) (self, w) (new, made)
    → AreUnder s self.exponents steps k w (condition_at w u v) → AreUnder s new.exponents (set steps k step) (k + 1) made (condition_at made (u + 1) v)
kept-next s self new steps k step u v order inside alike cells imposed before rows done =
    let between = rows-between (set steps k step) s.t k rows s.rows done in
    let mid = between.1 in
    imposed-rows s self new true step u v order alike cells imposed between.0 rows mid.size
    (before between.0 (taken-alike (set steps k step) steps s.t k between.0 s.rows (step-set_before steps k step) mid))
    (subst (λ x. TakeIf true x s.t rows between.0) (step-set_same steps k step inside) between.2)

-- all of one row of a window
pub kept-row : (s : Polynomials) (exponents : List ℕ) (steps : List KeptStep) (k : ℕ) (w : Derivatives) (u v : ℕ) → u ≡ w.m - v
    → AreUnder s exponents steps k w (condition_at w u v) → AreUnder s exponents steps k w (condition_at w 0 (v + 1))
kept-row s exponents steps k w u v all before rows done =
    let is = before rows done in
    let window = is.window in
    record {
      under = under-row s (with_rows s rows exponents) (condition_at w u v) w.m is.under all;
      window = record { lanes = window.lanes; each = λ i j g from l inside low. window.each i j g (omega (arith, from)) l inside low };
    }

-- all, where the rows took the steps
pub kept-all : (s : Polynomials) (rows : List (List ℕ)) (exponents : List ℕ) (steps : List KeptStep) (k : ℕ) (w : Derivatives) (v : ℕ) → v ≡ w.m
    → HaveTaken steps s.t k rows s.rows → sum exponents ≤ sum s.exponents + orders w.m v → AreUnder s exponents steps k w (condition_at w 0 v)
    → IsPassing s (with_rows s rows exponents) w.a w.b w.m
kept-all s rows exponents steps k w v all done rise before =
    let is = before rows done in
    under-all s (with_rows s rows exponents) (condition_at w 0 v) w.m is.under refl all (omega (arith, rise))
