use Rattle.std.proofs.Common.{◌≡◌, ◌≢◌, ℕ, ◌+◌, ◌<◌, ◌≤◌, List, length, get_or, set, sum, refl, sym, ap, subst, ◌∙◌, arith, inl, inr, length-set, get_or-set_same, get_or-set_other}
use Rattle.std.proofs.lemmas.Bool.{cases_lt}
use Rattle.std.proofs.lemmas.List.{get_or_past}
use Rattle.std.proofs.lemmas.List.Sums.{sum_by-set}
use Rattle.gf256.specs.Field.{◌⊕◌}
use Rattle.gf256.proofs.Xor.{add_assoc, add_self, add_zero}
use Rattle.gs_interpolate.specs.Family.{multiplier, IsFamilyStep}
use Rattle.gs_interpolate.specs.Window.{IsWindowStep}
use Rattle.gs_interpolate.specs.Basis.{Polynomials, raised_at, with_rows, IsLightWindow, IsPivot}
use Rattle.gs_interpolate.proofs.FamilySteps.{IsPivotStep, is_step, window-follows, values-of_window}
use Rattle.gs_interpolate.proofs.basis.Basis.impose.Goals as goal

-- with a + 1 as its own factor the pivot is multiplied by a
own : (factors : List ℕ) (p a made : ℕ) → p < length factors → made ≡ a ⊕ 1 → multiplier (set factors p made) p ≡ a
own factors p a made inside is =
    ap (λ x. x ⊕ 1) (get_or-set_same factors p made 0 inside ∙ is) ∙ add_assoc a 1 1 ∙ ap (◌⊕◌ a) (add_self 1) ∙ add_zero a

-- one exponent rises by one
sum-raised : (exponents : List ℕ) (p : ℕ) → p < length exponents → sum (raised_at exponents p) ≤ sum exponents + 1
sum-raised exponents p inside =
    let one = sum_by-set (λ (x : ℕ). x) exponents p (get_or exponents p 0 + 1) 0 inside in
    omega (arith, one)

-- which is the pivot does not depend on the rows
pivot-rows : (s : Polynomials) (rows : List (List ℕ)) (values : List ℕ) (p : ℕ) → length rows ≡ length s.rows → IsPivot s values p
    → IsPivot (with_rows s rows s.exponents) values p
pivot-rows s rows values p size pivot =
    let first = pivot.first in
    record {
      light = pivot.light;
      first = record {
        inside = let inside = first.inside in omega (arith, size, inside);
        fails = first.fails;
        first = λ j l some other. first.first j (omega (arith, size, l)) some other;
      };
    }

-- where a value is not 0, there is one
is_inside : (xs : List ℕ) (p : ℕ) → get_or xs p 0 ≢ 0 → p < length xs
is_inside xs p some = elim (cases_lt p (length xs)) [
  | inl l ↦ l
  | inr past ↦ absurd (some (get_or_past xs p 0 past))
]

pub values-values-requires : goal.values-values-requires
values-values-requires c = c.requires.order

pub pivot-requires : goal.pivot-requires
pivot-requires c = c.values-values.ensures.length ∙ c.requires.window

pub returns-in_default-clause-imposed : goal.returns-in_default-clause-imposed
returns-in_default-clause-imposed c = λ rows made fit same.
    let s = c.args.self.now in
    let before = with_rows s rows s.exponents in
    let w = c.args.window.now in
    let values = c.values-values.result.now in
    record {
      imposed = record {
        alike = refl;
        values = values;
        are = values-of_window before w c.args.u c.args.v values fit.basis c.requires.order c.values-values.ensures.each fit.window;
        step = inl ((λ j l low. c.in_default.ensures j (subst (λ n. j < n) fit.size l) low), ap (λ rows. with_rows s rows s.exponents) same);
      };
      window = subst (λ rows. IsLightWindow (with_rows s rows s.exponents) w c.args.v) (sym same) fit.window;
    }

pub reach-requires : goal.reach-requires
reach-requires c = c.in-Some.ensures.first.inside

pub aim-requires-clause-same : goal.aim-requires-clause-same
aim-requires-clause-same c = c.values-values.ensures.length ∙ c.requires.window ∙ sym c.requires.step

pub aim-requires-clause-inside : goal.aim-requires-clause-inside
aim-requires-clause-inside c = is_inside c.values-values.result.now c.in-Some.p c.in-Some.ensures.first.fails

pub aim-requires-clause-fails : goal.aim-requires-clause-fails
aim-requires-clause-fails c = c.in-Some.ensures.first.fails

pub aim-requires-clause-small : goal.aim-requires-clause-small
aim-requires-clause-small c = c.reach.ensures.small

pub step-requires-clause-lanes : goal.step-requires-clause-lanes
step-requires-clause-lanes c = ap length c.factors.ensures ∙ c.aim.ensures.size ∙ c.values-values.ensures.length

pub step-requires-clause-inside : goal.step-requires-clause-inside
step-requires-clause-inside c =
    subst (λ n. c.in-Some.p < n) c.values-values.ensures.length (is_inside c.values-values.result.now c.in-Some.p c.in-Some.ensures.first.fails)

pub raise-requires-clause-inside : goal.raise-requires-clause-inside
raise-requires-clause-inside c = c.in-Some.ensures.first.inside

pub returns-clause-rows : goal.returns-clause-rows
returns-clause-rows c =
    c.raise.ensures ∙ ap (with_rows c.args.self.now c.args.self.now.rows) (sym (ap (λ x. x.exponents) c.raise.ensures))

pub returns-clause-cells : goal.returns-clause-cells
returns-clause-cells c = c.step.ensures.window

pub returns-clause-lanes : goal.returns-clause-lanes
returns-clause-lanes c =
    ap (λ x. length x.factors) c.shift.ensures ∙ length-set c.aim.new.self.factors _ _ ∙ c.aim.ensures.size ∙ c.values-values.ensures.length ∙ c.requires.window

pub returns-clause-imposed : goal.returns-clause-imposed
returns-clause-imposed c = λ rows made fit taken.
    let s = c.args.self.now in
    let before = with_rows s rows s.exponents in
    let w = c.args.window.now in
    let v = c.args.v in
    let p = c.in-Some.p in
    let values = c.values-values.result.now in
    let aimed = c.aim.new.self.factors in
    let shifted = c.shift.new.self.factors in
    let raised = c.raise.new.self.exponents in
    let place = c.aim.ensures.place in
    let lanes : length aimed ≡ w.lanes = c.aim.ensures.size ∙ c.values-values.ensures.length in
    let pivot = pivot-rows s rows values p fit.size c.in-Some.ensures in
    let inside : p < length aimed = omega (arith, pivot.first.inside, fit.basis.wide, lanes, c.requires.window) in
    let a = c.a.result in
    let point : a ≡ w.a = c.a.ensures ∙ ap (λ w. w.a) c.step.ensures.window in
    let is : shifted ≡ set aimed p (a ⊕ 1) = ap (λ x. x.factors) c.shift.ensures ∙ ap (λ k. set aimed k (a ⊕ 1)) place in
    let alike : (g : ℕ) → g ≢ p → get_or shifted g 0 ≡ get_or aimed g 0 =
    λ g o. ap (λ xs. get_or xs g 0) is ∙ get_or-set_other aimed p g (a ⊕ 1) 0 o in
    let up : raised ≡ raised_at s.exponents p = ap (λ x. x.exponents) c.raise.ensures in
    let step : IsPivotStep before made shifted p w.a = record {
      basis = fit.basis;
      inside = pivot.first.inside;
      light = pivot.light;
      lanes = ap length is ∙ length-set aimed p (a ⊕ 1) ∙ lanes ∙ c.requires.window;
      own = ap (λ xs. multiplier xs p) is ∙ own aimed p w.a (a ⊕ 1) inside (ap (λ x. x ⊕ 1) point);
      rows =
          subst (λ k. IsFamilyStep shifted p s.t k made rows) (ap (λ x. x.reach) c.shift.ensures ∙ c.aim.ensures.reach ∙ c.reach.ensures.reach)
          (subst (λ k. IsFamilyStep shifted k s.t c.shift.new.self.reach made rows) (ap (λ x. x.p) c.shift.ensures ∙ place) taken);
    } in
    record {
      imposed = record {
        alike = refl;
        values = values;
        are = values-of_window before w c.args.u v values fit.basis c.requires.order c.values-values.ensures.each fit.window;
        step = inr (p, pivot, is_step step raised values up (λ j l o. alike j o ∙ c.aim.ensures.others j o));
      };
      window =
          subst (λ x. IsLightWindow (with_rows s made raised) x v) (sym c.step.ensures.window)
          (window-follows w step v c.step.new.self.cells aimed raised up fit.window
          (subst (λ xs. IsWindowStep xs p w.m c.step.new.self.cells w.cells v) c.factors.ensures c.step.ensures.step)
          lanes (ap (λ x. x ⊕ 1) c.aim.ensures.own ∙ add_self 1) (λ g o. sym (alike g o)));
    }
