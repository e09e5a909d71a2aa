use Rattle.std.proofs.Common.{Bool, sym, subst}
use Rattle.commands.specs.ReplayOrder.{ReplayOrder}
use Rattle.commands.specs.ReplayOutcome.{ReplayEnds}
use Rattle.commands.proofs.replay_command.replay_file.Goals as goal

pub returns-then-order-clause-ends : goal.returns-then-order-clause-ends
returns-then-order-clause-ends g c =
    let o = c.order.inside in
    let old = g.P.Ports.world c.args.ports.now in
    let new = g.P.Ports.world c.replay_whole.new.ports in
    subst (λ (v : ReplayOrder). ReplayEnds v.file v.report c.replay_whole.result old new) c.order.view_is
    (subst (λ (b : Bool). ReplayEnds o.file.now b c.replay_whole.result old new) (sym c.if-order.true) c.replay_whole.ensures.ends)

pub returns-else-order-clause-ends : goal.returns-else-order-clause-ends
returns-else-order-clause-ends g c =
    let o = c.order.inside in
    let old = g.P.Ports.world c.args.ports.now in
    let new = g.P.Ports.world c.replay_plain.new.ports in
    subst (λ (v : ReplayOrder). ReplayEnds v.file v.report c.replay_plain.result old new) c.order.view_is
    (subst (λ (b : Bool). ReplayEnds o.file.now b c.replay_plain.result old new) (sym c.if-order.false) c.replay_plain.ensures.ends)
