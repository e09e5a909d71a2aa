use Rattle.std.proofs.Common.{◌∙◌, Err, inr, ap, subst, sym}
use Rattle.std.specs.Prelude.{Result, IfErr}
use Rattle.std.proofs.lemmas.Result.{err_from_is_err_and}
use Rattle.port_trait.specs.World.{World}
use Rattle.commands.specs.ServeOrder.{ServeOrder}
use Rattle.commands.specs.ServeSteps.{HasOpenDesk}
use Rattle.commands.specs.ServeOutcome.{NoFurtherGuest, ServeEnds, ServedAll}
use Rattle.commands.specs.declared.status.Status.{Status}
use Rattle.commands.proofs.Serving.{desk_touches, door_touches, no_further_guest, not_ready, served_all, unnamed_by_door}
use Rattle.commands.proofs.serve_command.serve_at_desk.Goals as goal

pub returns-in_err-listen-clause-ends : goal.returns-in_err-listen-clause-ends
returns-in_err-listen-clause-ends g c =
    let loaded = g.P.Ports.world c.args.ports.now in
    let end = g.P.Ports.world c.listen.new.ports in
    let order = c.args.order.now in
    let fault = err_from_is_err_and c.from_residual.result c.from_residual.ensures.1 in
    subst (λ (r : Result (Unit {0}) Status). IfErr r (λ status. (start : World) → HasOpenDesk order c.args.desk.now start loaded → ServeEnds order status start end)) (sym (fault.1 ∙ ap Err fault.2))
    (λ start has.
    let desk = subst (λ (o : ServeOrder). HasOpenDesk o c.args.desk.now start loaded) (sym c.order.view_is) has in
    subst (λ (o : ServeOrder). ServeEnds o c.in_err-listen.field-0.0 start end) c.order.view_is
    (not_ready _ _ start loaded desk c.in_err-listen.field-0.0 end c.in_err-listen.ensures.listens c.listen.ensures.others))

pub returns-in_err-listen-clause-others : goal.returns-in_err-listen-clause-others
returns-in_err-listen-clause-others g c = door_touches _ _ c.listen.ensures.others

pub returns-in_err-listen-clause-unnamed : goal.returns-in_err-listen-clause-unnamed
returns-in_err-listen-clause-unnamed g c = unnamed_by_door _ _ c.listen.ensures.others

pub returns-in_default-clause-ends : goal.returns-in_default-clause-ends
returns-in_default-clause-ends g c = λ start has.
    let loaded = g.P.Ports.world c.args.ports.now in
    let end = g.P.Ports.world c.serve_guests.new.ports in
    let desk = subst (λ (o : ServeOrder). HasOpenDesk o c.args.desk.now start loaded) (sym c.order.view_is) has in
    inr (subst (λ (o : ServeOrder). NoFurtherGuest o start end) c.order.view_is
    (no_further_guest _ _ start loaded desk (g.P.Ports.world c.listen.new.ports) end c.in_ok-listen.ensures.listens c.listen.ensures.others c.serve_guests.ensures.others c.in_default.ensures.failed))

pub returns-in_default-clause-others : goal.returns-in_default-clause-others
returns-in_default-clause-others g c = desk_touches _ _ _ c.listen.ensures.others c.serve_guests.ensures.others

pub returns-in_default-clause-unnamed : goal.returns-in_default-clause-unnamed
returns-in_default-clause-unnamed g c = c.serve_guests.ensures.unnamed ∙ unnamed_by_door _ _ c.listen.ensures.others

pub returns-clause-served : goal.returns-clause-served
returns-clause-served g c = λ start has.
    let loaded = g.P.Ports.world c.args.ports.now in
    let end = g.P.Ports.world c.serve_guests.new.ports in
    let desk = subst (λ (o : ServeOrder). HasOpenDesk o c.args.desk.now start loaded) (sym c.order.view_is) has in
    subst (λ (o : ServeOrder). ServedAll o start end) c.order.view_is
    (served_all _ _ start loaded desk (g.P.Ports.world c.listen.new.ports) end c.in_ok-listen.ensures.listens c.listen.ensures.others c.serve_guests.ensures.others c.in-Ok.ensures.ok c.in-Ok.ensures.turns c.in-Ok.ensures.replied c.in-Ok.ensures.door)

pub returns-clause-others : goal.returns-clause-others
returns-clause-others g c = desk_touches _ _ _ c.listen.ensures.others c.serve_guests.ensures.others

pub returns-clause-unnamed : goal.returns-clause-unnamed
returns-clause-unnamed g c = c.serve_guests.ensures.unnamed ∙ unnamed_by_door _ _ c.listen.ensures.others
