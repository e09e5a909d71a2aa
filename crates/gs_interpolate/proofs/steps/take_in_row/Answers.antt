use Rattle.std.proofs.Common.{◌≡◌, subst, ◌∙◌, arith}
use Rattle.std.proofs.lemmas.List.{get_or_default}
use Rattle.gs_interpolate.specs.Steps.{step_at, TookStep}
use Rattle.gs_interpolate.proofs.Taking.{took-none, took-next}
use Rattle.gs_interpolate.proofs.steps.take_in_row.Goals as goal

pub loop-step-init : goal.loop-step-init
loop-step-init c = took-none c.args.steps.now c.args.weight c.args.row.now.items

pub loop-step-preserved : goal.loop-step-preserved
loop-step-preserved c =
    let steps = c.args.steps.now in
    let k = c.loop-step.step-index in
    let now = c.change.new.row.items in
    let mid = c.loop-step.row.items in
    let same : c.step-item.result ≡ step_at steps k = c.step-item.is ∙ get_or_default steps k _ _ (omega arith) in
    took-next steps c.args.weight k now mid c.args.row.now.items c.loop-step.invariant
    (subst (λ s. TookStep s c.args.weight now mid) same c.in_ok-change.ensures)
