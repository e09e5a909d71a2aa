use Rattle.std.proofs.Common.{◌≡◌, Bool, true, false, ℕ, ◌+◌, ◌<◌, ◌≤◌, List, length, get_or, take, set, sum, refl, sym, ap, subst, ◌∙◌, arith, Vec, Global}
use Rattle.std.proofs.lemmas.List.{get_or_default, get_or-take, length-map, length-set, length-take-le}
use Rattle.std.proofs.lemmas.Result.{IfOk-from_err}
use borrow.Author.Count.{falls}
use Rattle.interpolation.specs.Monomials.{conditions}
use Rattle.gs_interpolate.specs.Family.{bytes_of}
use Rattle.gs_interpolate.specs.Window.{condition_at, IsWindow}
use Rattle.gs_interpolate.specs.Steps.{step_at, HaveTaken}
use Rattle.gs_interpolate.specs.Basis.{with_rows, Imposes, IsPassing}
use Rattle.gs_interpolate.proofs.FamilySteps.{light_window}
use Rattle.gs_interpolate.proofs.Passing.{orders, orders-left, orders-next, conditions-one}
use Rattle.gs_interpolate.proofs.Taking.{taken-alike}
use Rattle.gs_interpolate.proofs.Keeping.{AreUnder, have_lanes-set, kept-none, kept-idle, kept-next, kept-row, kept-all}
use Rattle.gs_interpolate.proofs.basis.Basis.pass.Goals as goal
use Rattle.gs_interpolate.proofs.basis.Basis.pass.Goals.{then-impose, else-impose}

-- the steps so far are fewer than the conditions, so there is room for one
room_left : (m u v taken n : ℕ) → u + v < m → taken ≤ orders m v + u → conditions 1 m ≤ n → taken < n
room_left m u v taken n l few enough = let left = orders-left m u v l in omega (arith, left, few, enough)

pub at-requires-clause-some : goal.at-requires-clause-some
at-requires-clause-some c =
    omega (arith, c.self.invariant.some, c.self.invariant.wide, c.requires.lanes, ap (λ s. s.lanes) c.self.view_is)

pub at-requires-clause-few : goal.at-requires-clause-few
at-requires-clause-few c = omega (arith, c.self.invariant.width, c.requires.lanes, ap (λ s. s.lanes) c.self.view_is)

pub at-requires-clause-wide : goal.at-requires-clause-wide
at-requires-clause-wide c =
    let f : Vec ℕ Global → List ℕ = λ r. r.items in
    omega (arith, ap length c.deref.ensures.value, length-map c.self.inside.rows.items f, c.self.invariant.wide, c.requires.lanes, ap (λ s. s.lanes) c.self.view_is)

pub at-requires-clause-terms : goal.at-requires-clause-terms
at-requires-clause-terms c = c.requires.multiplicity

pub rows-init : goal.rows-init
rows-init c =
    let made = c.in_ok-window.ensures in
    let s = c.args.self.now in
    let m = c.args.window.m in
    let window = c.in_ok-window.window in
    let rows = ap (λ s. s.rows) c.self.view_is in
    record {
      order = made.order ∙ sym c.m-m.ensures;
      first = made.first;
      second = made.second;
      lanes = made.lanes ∙ c.requires.lanes;
      kept = c.requires.steps;
      enough = omega (arith, c.requires.enough, ap (conditions 1) c.m-m.ensures);
      alike = refl;
      few = omega arith;
      rise = omega arith;
      under = kept-none s c.args.steps.now window c.requires.basis
          (light_window s window m c.args.a c.args.b
          (subst (λ rows. IsWindow s.lanes m c.args.a c.args.b rows window) rows
          (subst (λ n. IsWindow n m c.args.a c.args.b (bytes_of c.self.inside.rows.items) window) c.requires.lanes
          (subst (λ rows. IsWindow c.args.window.lanes m c.args.a c.args.b (bytes_of rows) window) c.deref.ensures.value made))));
    }

pub orders-init : goal.orders-init
orders-init c =
    let h = c.rows.invariant in
    record {
      order = h.order;
      first = h.first;
      second = h.second;
      lanes = h.lanes;
      kept = h.kept;
      enough = h.enough;
      alike = h.alike;
      few = omega (arith, h.few);
      rise = omega (arith, h.rise);
      under = h.under;
    }

pub orders-smaller : goal.orders-smaller
orders-smaller c = falls _ c.orders.u c.orders-test.true

pub rows-smaller : goal.rows-smaller
rows-smaller c = falls _ c.rows.v c.rows-test.true

pub orders-preserved : goal.orders-preserved
orders-preserved c =
    let h = c.orders.invariant in
    let s = c.args.self.now in
    let m = c.m-m.result in
    let v = c.rows.v in
    let u = c.orders.u in
    let steps = c.orders.steps in
    let window = c.orders.window in
    let now = c.impose.new.window in
    let step = c.impose.new.step in
    let is = c.impose.ensures in
    let order : u + v < window.m = omega (arith, h.order) in
    let made = c.impose.new.self in
    let here = condition_at window u v in
    let next = condition_at now (u + 1) v in
    let imposed = λ (b : Bool) (e : c.impose.result ≡ b). subst (λ x. Imposes x step here (c.orders.self, window) (made, now)) e is.imposed in
    let room = room_left m u v c.orders.taken (length steps) (omega arith) h.few h.enough in
    record {
      order = ap (λ w. w.m) is.cells ∙ h.order;
      first = ap (λ w. w.a) is.cells ∙ h.first;
      second = ap (λ w. w.b) is.cells ∙ h.second;
      lanes = ap (λ w. w.lanes) is.cells ∙ h.lanes;
      kept = have_lanes-set s.lanes steps c.orders.taken step h.kept (is.lanes ∙ ap (λ x. x.lanes) h.alike);
      enough = omega (arith, h.enough, length-set steps c.orders.taken step);
      alike = is.rows ∙ ap (λ x. with_rows x x.rows made.exponents) h.alike;
      few = elim c.if-impose.branch [
        | then-impose w ↦ omega (arith, h.few, w.taken-is)
        | else-impose w ↦ omega (arith, h.few, w.taken-is)
      ];
      rise = omega (arith, h.rise, is.rise);
      under = elim c.if-impose.branch [
        | then-impose w ↦
            subst (λ k. AreUnder s made.exponents (set steps c.orders.taken step) k now next) (sym w.taken-is)
            (kept-next s c.orders.self made steps c.orders.taken step u v order room h.alike is.cells (imposed true w.if-impose.true) h.under)
        | else-impose w ↦
            subst (λ k. AreUnder s made.exponents (set steps c.orders.taken step) k now next) (sym w.taken-is)
            (kept-idle s c.orders.self made steps c.orders.taken step u v order h.alike is.cells (imposed false w.if-impose.false) h.under)
      ];
    }

pub rows-preserved : goal.rows-preserved
rows-preserved c =
    let h = c.orders.invariant in
    let next = orders-next c.m-m.result c.rows.v (c.rows.v + 1) refl in
    record {
      order = h.order;
      first = h.first;
      second = h.second;
      lanes = h.lanes;
      kept = h.kept;
      enough = h.enough;
      alike = h.alike;
      few = omega (arith, h.few, next);
      rise = omega (arith, h.rise, next);
      under = kept-row c.args.self.now c.orders.self.exponents c.orders.steps c.orders.taken c.orders.window c.orders.u c.rows.v
          (omega (arith, h.order)) h.under;
    }

pub offset_bounds-steps-taken : goal.offset_bounds-steps-taken
offset_bounds-steps-taken c =
    let l = room_left c.m-m.result c.orders.u c.rows.v c.orders.taken (length c.orders.steps) (omega arith) c.orders.invariant.few c.orders.invariant.enough in
    omega (arith, l)

pub bounds-steps-taken : goal.bounds-steps-taken
bounds-steps-taken c =
    room_left c.m-m.result c.orders.u c.rows.v c.orders.taken (length c.orders.steps) (omega arith) c.orders.invariant.few c.orders.invariant.enough

pub impose-requires-clause-room : goal.impose-requires-clause-room
impose-requires-clause-room c =
    let left = orders-left c.m-m.result c.orders.u c.rows.v (omega arith) in
    omega (arith, left, c.orders.invariant.rise, c.requires.room, ap (conditions 1) c.m-m.ensures)

pub impose-requires-clause-order : goal.impose-requires-clause-order
impose-requires-clause-order c = omega (arith, c.orders.invariant.order)

pub impose-requires-clause-window : goal.impose-requires-clause-window
impose-requires-clause-window c = c.orders.invariant.lanes ∙ sym (ap (λ s. s.lanes) c.orders.invariant.alike)

pub impose-requires-clause-step : goal.impose-requires-clause-step
impose-requires-clause-step c =
    let h = c.orders.invariant in
    let steps = c.orders.steps in
    let k = c.orders.taken in
    let inside = room_left c.m-m.result c.orders.u c.rows.v k (length steps) (omega arith) h.few h.enough in
    let same : get_or steps k c.index-steps-taken.result ≡ step_at steps k = get_or_default steps k _ _ inside in
    ap (λ s. length s.factors) same ∙ h.kept k inside ∙ sym (ap (λ s. s.lanes) h.alike)

pub overflow_add-taken : goal.overflow_add-taken
overflow_add-taken c =
    let l = room_left c.m-m.result c.orders.u c.rows.v c.orders.taken (length c.orders.steps) (omega arith) c.orders.invariant.few c.orders.invariant.enough in
    omega (arith, l)

-- all steps are at most as many as the conditions
room_all : (m v taken n : ℕ) → v ≡ m → taken ≤ orders m v → conditions 1 m ≤ n → taken ≤ n
room_all m v taken n all few enough =
    let same = ap (orders m) all in let one = conditions-one m in omega (arith, same, one, few, enough)

pub slice_bounds-take-end : goal.slice_bounds-take-end
slice_bounds-take-end c =
    room_all c.m-m.result c.rows.v c.rows.taken (length c.rows.steps) (omega arith) c.rows.invariant.few c.rows.invariant.enough

pub slice_bounds-take-end-2 : goal.slice_bounds-take-end-2
slice_bounds-take-end-2 c =
    let fit = room_all c.m-m.result c.rows.v c.rows.taken (length c.rows.steps) (omega arith) c.rows.invariant.few c.rows.invariant.enough in
    sym (length-take-le c.rows.taken c.rows.steps fit)

pub returns-clause-passing : goal.returns-clause-passing
returns-clause-passing c =
    let h = c.rows.invariant in
    let s = c.args.self.now in
    let m = c.m-m.result in
    let k = c.rows.taken in
    let steps = c.rows.steps in
    let window = c.rows.window in
    let under = c.rows.self in
    let new = c.take.new.self in
    let taken = c.in_ok-take.ensures in
    let fit = room_all m c.rows.v k (length steps) (omega arith) h.few h.enough in
    let many = length-take-le k steps fit in
    let done : HaveTaken steps s.t k new.rows s.rows =
    subst (λ x. HaveTaken steps x.t k new.rows x.rows) h.alike
    (subst (λ n. HaveTaken steps under.t n new.rows under.rows) many
    (taken-alike (take k steps) steps under.t (length (take k steps)) new.rows under.rows
    (λ i l. get_or-take k steps i _ (omega (arith, l, many))) taken.rows)) in
    let alike : new ≡ with_rows s new.rows under.exponents = taken.alike ∙ ap (λ x. with_rows x new.rows x.exponents) h.alike in
    let rise = subst (λ m. sum under.exponents ≤ sum s.exponents + orders m c.rows.v) (sym h.order) h.rise in
    subst (λ x. IsPassing s x c.args.a c.args.b c.args.window.m) (sym alike)
    (subst (λ n. IsPassing s (with_rows s new.rows under.exponents) c.args.a c.args.b n) (h.order ∙ c.m-m.ensures)
    (subst (λ b. IsPassing s (with_rows s new.rows under.exponents) c.args.a b window.m) h.second
    (subst (λ a. IsPassing s (with_rows s new.rows under.exponents) a window.b window.m) h.first
    (kept-all s new.rows under.exponents steps k window c.rows.v (omega (arith, h.order)) done rise h.under))))

pub returns-clause-window : goal.returns-clause-window
returns-clause-window c = (c.rows.invariant.lanes, c.rows.invariant.order ∙ c.m-m.ensures)

pub returns-clause-steps : goal.returns-clause-steps
returns-clause-steps c = c.rows.invariant.kept

pub returns-in_err-window-clause-passing : goal.returns-in_err-window-clause-passing
returns-in_err-window-clause-passing c = IfOk-from_err c.from_residual.result _ c.from_residual.ensures.0

pub returns-in_err-window-clause-window : goal.returns-in_err-window-clause-window
returns-in_err-window-clause-window c = IfOk-from_err c.from_residual.result _ c.from_residual.ensures.0

pub returns-in_err-window-clause-steps : goal.returns-in_err-window-clause-steps
returns-in_err-window-clause-steps c = IfOk-from_err c.from_residual.result _ c.from_residual.ensures.0

pub returns-in_err-take-clause-passing : goal.returns-in_err-take-clause-passing
returns-in_err-take-clause-passing c = IfOk-from_err c.from_residual-in_err-take.result _ c.from_residual-in_err-take.ensures.0

pub returns-in_err-take-clause-window : goal.returns-in_err-take-clause-window
returns-in_err-take-clause-window c = IfOk-from_err c.from_residual-in_err-take.result _ c.from_residual-in_err-take.ensures.0

pub returns-in_err-take-clause-steps : goal.returns-in_err-take-clause-steps
returns-in_err-take-clause-steps c = IfOk-from_err c.from_residual-in_err-take.result _ c.from_residual-in_err-take.ensures.0
