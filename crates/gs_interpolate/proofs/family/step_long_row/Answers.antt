use Rattle.std.proofs.Common.{◌≡◌, ◌*◌, ◌%◌, length, sym, ap, subst, ◌∙◌, arith, inl, inr, take_at}
use Rattle.std.proofs.Math.Nat.{mul-mod_left}
use Rattle.std.proofs.lemmas.Bool.{cases_lt}
use Rattle.gs_interpolate.specs.Family.{IsRowStep}
use Rattle.gs_interpolate.proofs.RowSteps.{row_step-longer, resized}
use Rattle.gs_interpolate.proofs.family.step_long_row.Goals as goal

pub returns-clause-step : goal.returns-clause-step
returns-clause-step c =
    let factors = c.args.factors.now in
    let p = c.args.p in
    let old = c.args.row.now.items in
    let new = c.step_reached.new.row in
    let missing = c.saturating_sub-missing.result in
    let longer = resized old c.resize.new.self.items _ _ missing c.args.row.now.ok.0 c.in_ok-resize.ensures.items (omega arith) in
    let items = take_at new _ c.resize.new.self.len (c.step_reached.auto.row ∙ c.deref_mut.ensures.len) in
    subst (λ xs. IsRowStep factors p xs old c.args.count) (sym items)
    (row_step-longer factors p new old c.args.count missing
    (subst (λ xs. IsRowStep factors p new xs c.args.count) (c.deref_mut.ensures.value ∙ longer) c.step_reached.ensures))

pub overflow_mul-room : goal.overflow_mul-room
overflow_mul-room c = omega arith

pub overflow_add-len : goal.overflow_add-len
overflow_add-len c = omega arith

pub step_reached-requires-clause-inside : goal.step_reached-requires-clause-inside
step_reached-requires-clause-inside c = omega arith

pub step_reached-requires-clause-room : goal.step_reached-requires-clause-room
step_reached-requires-clause-room c =
    omega (arith, c.in_ok-resize.ensures.len)

pub returns-clause-whole : goal.returns-clause-whole
returns-clause-whole c = λ whole.
    let n = length c.args.factors.now in
    let old = c.args.row.now.items in
    let new = c.step_reached.new.row in
    let long = ap length (take_at new _ c.resize.new.self.len (c.step_reached.auto.row ∙ c.deref_mut.ensures.len)) in
    elim (cases_lt (c.args.count * n) (length old)) [
      | inl less ↦
          let same : length new ≡ length old = omega (arith, less, c.step_reached.auto.row, c.in_ok-resize.ensures.len) in
          ap (λ k. k % n) (long ∙ same) ∙ whole
      | inr more ↦
          let same : length new ≡ c.args.count * n = omega (arith, more, c.step_reached.auto.row, c.in_ok-resize.ensures.len) in
          ap (λ k. k % n) (long ∙ same) ∙ mul-mod_left c.args.count n
    ]
