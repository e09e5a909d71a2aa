use Rattle.std.proofs.Common.{◌∙◌, Err, inr, ap, subst, sym}
use Rattle.std.specs.Prelude.{Result, IfErr}
use Rattle.std.proofs.lemmas.Result.{err_from_is_err_and}
use Rattle.shard_front.specs.Spread.{shards}
use Rattle.commands.specs.FrontOrder.{FrontOrder}
use Rattle.commands.specs.FrontOutcome.{FrontEnds, FrontedAll, FrontedSome}
use Rattle.commands.specs.declared.status.Status.{Status}
use Rattle.commands.proofs.Serving.{unnamed_by_door}
use Rattle.commands.proofs.Fronting.{front_not_ready, front_touches, front_touches_door, fronted_all, fronted_some}
use Rattle.commands.proofs.front_command.relay_from.Goals as goal

pub returns-in_err-listen-clause-ends : goal.returns-in_err-listen-clause-ends
returns-in_err-listen-clause-ends g c =
    let start = g.P.Ports.world c.args.ports.now in
    let end = g.P.Ports.world c.listen.new.ports in
    let order = c.args.order.now in
    let fault = err_from_is_err_and c.from_residual.result c.from_residual.ensures.1 in
    subst (λ (r : Result (Unit {0}) Status). IfErr r (λ status. FrontEnds order status start end)) (sym (fault.1 ∙ ap Err fault.2))
    (subst (λ (o : FrontOrder). FrontEnds o c.in_err-listen.field-0.0 start end) c.order.view_is
    (front_not_ready _ start end c.in_err-listen.field-0.0 c.in_err-listen.ensures.listens c.listen.ensures.others))

pub returns-in_err-listen-clause-others : goal.returns-in_err-listen-clause-others
returns-in_err-listen-clause-others g c = front_touches_door _ _ _ c.listen.ensures.others

pub returns-in_err-listen-clause-unnamed : goal.returns-in_err-listen-clause-unnamed
returns-in_err-listen-clause-unnamed g c = unnamed_by_door _ _ c.listen.ensures.others

pub relay_guests-requires : goal.relay_guests-requires
relay_guests-requires g c =
    let is = c.requires ∙ ap (λ (o : FrontOrder). o.spread) (sym c.order.view_is) in
    c.order.invariant.one_for_each ∙ ap shards (sym is)

pub returns-in_default-clause-ends : goal.returns-in_default-clause-ends
returns-in_default-clause-ends g c =
    let start = g.P.Ports.world c.args.ports.now in
    let ready = g.P.Ports.world c.listen.new.ports in
    let end = g.P.Ports.world c.relay_guests.new.ports in
    let is = c.requires ∙ ap (λ (o : FrontOrder). o.spread) (sym c.order.view_is) in
    inr (subst (λ (o : FrontOrder). FrontedSome o start end) c.order.view_is
    (fronted_some _ _ start ready end is c.in_ok-listen.ensures.listens c.listen.ensures.others c.relay_guests.ensures.others c.in_default.ensures.failed))

pub returns-in_default-clause-others : goal.returns-in_default-clause-others
returns-in_default-clause-others g c = front_touches c.args.order.now _ _ _ _ c.requires c.listen.ensures.others c.relay_guests.ensures.others

pub returns-in_default-clause-unnamed : goal.returns-in_default-clause-unnamed
returns-in_default-clause-unnamed g c = c.relay_guests.ensures.unnamed ∙ unnamed_by_door _ _ c.listen.ensures.others

pub returns-clause-relayed : goal.returns-clause-relayed
returns-clause-relayed g c =
    let start = g.P.Ports.world c.args.ports.now in
    let ready = g.P.Ports.world c.listen.new.ports in
    let end = g.P.Ports.world c.relay_guests.new.ports in
    let is = c.requires ∙ ap (λ (o : FrontOrder). o.spread) (sym c.order.view_is) in
    subst (λ (o : FrontOrder). FrontedAll o start end) c.order.view_is
    (fronted_all _ _ start ready end is c.in_ok-listen.ensures.listens c.listen.ensures.others c.relay_guests.ensures.others c.in-Ok.ensures.turns c.in-Ok.ensures.guests c.in-Ok.ensures.door)

pub returns-clause-others : goal.returns-clause-others
returns-clause-others g c = front_touches c.args.order.now _ _ _ _ c.requires c.listen.ensures.others c.relay_guests.ensures.others

pub returns-clause-unnamed : goal.returns-clause-unnamed
returns-clause-unnamed g c = c.relay_guests.ensures.unnamed ∙ unnamed_by_door _ _ c.listen.ensures.others
