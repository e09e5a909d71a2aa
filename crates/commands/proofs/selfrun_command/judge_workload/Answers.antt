use Rattle.std.proofs.Common.{subst}
use Rattle.std.specs.Prelude.{IfOk}
use Rattle.std.proofs.lemmas.Result.{IfOk-weaker}
use Rattle.block_decoder.specs.declared.verdict.Verdict.{Verdict}
use Rattle.drawn_workload.specs.WorkloadOrder.{WorkloadOrder}
use Rattle.drawn_workload.specs.Judged.{IsDecidedOn}
use Rattle.commands.specs.SelfrunOutcome.{IsVerdictOn}
use Rattle.commands.proofs.AskedRow.{judged_on}
use Rattle.commands.proofs.selfrun_command.judge_workload.Goals as goal

pub returns : goal.returns
returns g c =
    subst (λ (o : WorkloadOrder). IfOk c.judge_answers.result (IsDecidedOn o.load) → IfOk c.judge_answers.result (IsVerdictOn o.load)) c.order.view_is
    (IfOk-weaker c.judge_answers.result _ _ (λ (v : Verdict) is. judged_on c.order.inside.load v c.order.invariant.0 is))
    c.judge_answers.ensures
