use Rattle.std.proofs.Common.{◌≡◌, ◌*◌, length, refl, sym, ap, subst, ◌∙◌, arith, take_at}
use Rattle.gs_interpolate.specs.Window.{Derivatives, with_cells, IsWindowStep}
use Rattle.gs_interpolate.proofs.window.Window.step.Goals as goal

-- what has all but the cells of one has all but the cells of an equal one
same_but_cells : (v w made : Derivatives) → v ≡ w → made ≡ with_cells v made.cells → made ≡ with_cells w made.cells
same_but_cells v w made same is = is ∙ ap (λ x. with_cells x made.cells) same

pub step_cells-requires-clause-inside : goal.step_cells-requires-clause-inside
step_cells-requires-clause-inside c = omega (arith, c.requires.inside, c.requires.lanes)

pub step_cells-requires-clause-size : goal.step_cells-requires-clause-size
step_cells-requires-clause-size c =
    ap length c.deref_mut.ensures.value ∙ c.self.invariant
    ∙ ap (λ n. c.self.inside.m * (c.self.inside.m * n)) (ap (λ w. w.lanes) c.self.view_is ∙ sym c.requires.lanes)

pub returns-clause-window : goal.returns-clause-window
returns-clause-window c = same_but_cells _ _ _ c.self.view_is refl

pub returns-clause-step : goal.returns-clause-step
returns-clause-step c =
    let factors = c.args.factors.now in
    let p = c.args.p in
    let v = c.args.v in
    let made = c.step_cells.new.cells in
    let back = take_at made _ c.self.inside.cells.len (c.step_cells.auto.cells ∙ c.deref_mut.ensures.len) in
    subst (λ cells. IsWindowStep factors p c.args.self.now.m cells c.args.self.now.cells v) (sym back)
    (subst (λ w. IsWindowStep factors p w.m made w.cells v) c.self.view_is
    (subst (λ cells. IsWindowStep factors p c.self.inside.m made cells v) c.deref_mut.ensures.value c.step_cells.ensures))

pub invariant_of-self : goal.invariant_of-self
invariant_of-self c =
    let made = c.step_cells.new.cells in
    let back = take_at made _ c.self.inside.cells.len (c.step_cells.auto.cells ∙ c.deref_mut.ensures.len) in
    ap length back ∙ c.step_cells.auto.cells ∙ ap length c.deref_mut.ensures.value ∙ c.self.invariant
