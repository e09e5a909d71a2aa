use Rattle.std.proofs.Common.{sym, subst}
use Rattle.std.specs.Prelude.{Result}
use Rattle.port_trait.proofs.Cells.{touches_more}
use Rattle.list_checks.specs.Checks.{Finds}
use Rattle.list_checks.specs.declared.fault.CheckFault.{CheckFault}
use Rattle.list_checks.specs.declared.tally.Tally.{Tally}
use Rattle.list_checks.proofs.Steps.{more_refused, told, whole_judged}
use Rattle.list_checks.proofs.checking.check_opened.Goals as goal

pub returns-in_err-counted-clause-finds : goal.returns-in_err-counted-clause-finds
returns-in_err-counted-clause-finds g c =
    let w = g.P.Ports.world c.args.ports.now in
    let v = g.P.Ports.world c.check_rows.new.ports in
    subst (λ (r : Result Tally CheckFault). Finds c.args.claim.now r w v)
    (sym (told c.from_residual.result c.in_err-counted.field-0.0 c.from_residual.ensures.1)) c.in_err-counted.ensures.checks

pub returns-in_err-refuse_more-clause-finds : goal.returns-in_err-refuse_more-clause-finds
returns-in_err-refuse_more-clause-finds g c =
    let w = g.P.Ports.world c.args.ports.now in
    let v = g.P.Ports.world c.check_rows.new.ports in
    let u = g.P.Ports.world c.refuse_more.new.ports in
    let fault = c.in_err-refuse_more.field-0.0 in
    subst (λ (r : Result Tally CheckFault). Finds c.args.claim.now r w u)
    (sym (told c.from_residual-in_err-refuse_more.result fault c.from_residual-in_err-refuse_more.ensures.1))
    (more_refused c.args.claim.now c.in_ok-counted.counted w v u c.in_ok-counted.ensures.checks fault c.in_err-refuse_more.ensures.ends)

pub returns-clause-finds : goal.returns-clause-finds
returns-clause-finds g c =
    let w = g.P.Ports.world c.args.ports.now in
    let v = g.P.Ports.world c.check_rows.new.ports in
    let u = g.P.Ports.world c.refuse_more.new.ports in
    let ends = c.in_ok-refuse_more.ensures.ends in
    whole_judged c.args.claim.now c.in_ok-counted.counted w v u c.in_ok-counted.ensures.checks ends.0 ends.1 c.judge.result c.judge.ensures

pub returns-clause-others : goal.returns-clause-others
returns-clause-others g c = touches_more _ _ _ _ c.check_rows.ensures.others c.refuse_more.ensures.others

pub returns-in_err-refuse_more-clause-others : goal.returns-in_err-refuse_more-clause-others
returns-in_err-refuse_more-clause-others g c = touches_more _ _ _ _ c.check_rows.ensures.others c.refuse_more.ensures.others
