use Rattle.std.proofs.Common.{subst, ◌*◌, ◌<◌, ℕ}
use Rattle.commands.specs.SelfrunOutcome.{IsVerdictOn}
use Rattle.drawn_workload.proofs.Workloads.{length-all_answers}
use Rattle.commands.proofs.selfrun_command.format_ending.Goals as goal

pub format_numbers-requires : goal.format_numbers-requires
format_numbers-requires c =
    let w = c.args.order.now.load in
    let listed = subst (IsVerdictOn w) c.in-Listed.is c.requires in
    subst (λ (n : ℕ). n * w.degree < w.agree * w.agree) (length-all_answers w) listed.decided.1
