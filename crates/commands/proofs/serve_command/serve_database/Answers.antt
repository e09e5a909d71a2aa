use Rattle.std.proofs.Common.{◌∙◌, Err, ap, subst, sym}
use Rattle.std.specs.Prelude.{Result, IfErr}
use Rattle.std.proofs.lemmas.Result.{IfErr-weaker, err_from_is_err_and, on_ok_weaker}
use Rattle.commands.specs.ServeOutcome.{ServeEnds}
use Rattle.commands.specs.declared.status.Status.{Status}
use Rattle.commands.proofs.Serving.{database_touches, desk_not_open, server_touches, unnamed_by_database}
use Rattle.commands.proofs.serve_command.serve_database.Goals as goal

pub returns-in_err-desk-clause-ends : goal.returns-in_err-desk-clause-ends
returns-in_err-desk-clause-ends g c =
    let start = g.P.Ports.world c.args.ports.now in
    let end = g.P.Ports.world c.open_desk.new.ports in
    let fault = err_from_is_err_and c.from_residual.result c.from_residual.ensures.1 in
    subst (λ (r : Result (Unit {0}) Status). IfErr r (λ status. ServeEnds c.args.order.now status start end)) (sym (fault.1 ∙ ap Err fault.2))
    (desk_not_open c.args.order.now c.in_err-desk.field-0.0 start end c.in_err-desk.ensures.opens c.open_desk.ensures.others)

pub returns-in_err-desk-clause-others : goal.returns-in_err-desk-clause-others
returns-in_err-desk-clause-others g c = database_touches _ _ c.open_desk.ensures.others

pub returns-in_err-desk-clause-unnamed : goal.returns-in_err-desk-clause-unnamed
returns-in_err-desk-clause-unnamed g c = unnamed_by_database _ _ c.open_desk.ensures.others

pub returns-clause-served : goal.returns-clause-served
returns-clause-served g c = on_ok_weaker c.serve_at_desk.result (λ served. served (g.P.Ports.world c.args.ports.now) (record { opens = c.in_ok-desk.ensures.opens; others = c.open_desk.ensures.others })) c.serve_at_desk.ensures.served

pub returns-clause-ends : goal.returns-clause-ends
returns-clause-ends g c = IfErr-weaker c.serve_at_desk.result _ _ (λ status ends. ends (g.P.Ports.world c.args.ports.now) (record { opens = c.in_ok-desk.ensures.opens; others = c.open_desk.ensures.others })) c.serve_at_desk.ensures.ends

pub returns-clause-others : goal.returns-clause-others
returns-clause-others g c = server_touches _ _ _ c.open_desk.ensures.others c.serve_at_desk.ensures.others

pub returns-clause-unnamed : goal.returns-clause-unnamed
returns-clause-unnamed g c = c.serve_at_desk.ensures.unnamed ∙ unnamed_by_database _ _ c.open_desk.ensures.others
