use Rattle.std.proofs.Common.{◌∙◌, inl, inr, refl, subst}
use Rattle.commands.specs.Orders.{Outcome, Promise}
use Rattle.commands.proofs.Formless.{no_room, no_usage, none_broken, refused}
use Rattle.commands.proofs.Headline.{answered}
use Rattle.commands.proofs.Ordered.{one_order}
use Rattle.commands.specs.declared.orders.Order.{Order}
use Rattle.commands.specs.declared.status.Status.{Status}
use Rattle.commands.proofs.running.run.Goals as goal

pub returns-in-Err-clause-words : goal.returns-in-Err-clause-words
returns-in-Err-clause-words g c = refused _ c.in-Err.fault _ _ c.in-Err.ensures.form c.into.ensures

pub returns-in-Err-clause-outcome : goal.returns-in-Err-clause-outcome
returns-in-Err-clause-outcome g c = λ order orders. inl (no_room _ c.in-Err.fault _ order c.in-Err.ensures.form c.into.ensures orders, refl)

pub returns-in-Err-clause-headline : goal.returns-in-Err-clause-headline
returns-in-Err-clause-headline g c = λ order bytes session orders told whole none. inr (no_room _ c.in-Err.fault _ _ c.in-Err.ensures.form c.into.ensures orders)

pub returns-in-Err-clause-promise : goal.returns-in-Err-clause-promise
returns-in-Err-clause-promise g c = λ order orders. none_broken _ _ _ (no_room _ c.in-Err.fault _ order c.in-Err.ensures.form c.into.ensures orders) order

pub returns-in-Ok-clause-words : goal.returns-in-Ok-clause-words
returns-in-Ok-clause-words g c =
    let form = c.in-Ok.ensures.form in
    record {
      formless = λ usage. absurd (no_usage _ _ _ (subst (λ (s : Status). Outcome c.order_of.result s (g.P.Ports.world c.args.ports.now) (g.P.Ports.world c.dispatch.new.ports)) usage c.dispatch.ensures.outcome));
      said = λ none. absurd cc;
      untouched = λ none. absurd cc;
    }

pub returns-in-Ok-clause-outcome : goal.returns-in-Ok-clause-outcome
returns-in-Ok-clause-outcome g c = λ order orders.
    let same = c.order_of.ensures ∙ one_order _ _ _ c.in-Ok.ensures.form orders in
    inr (subst (λ (o : Order). Outcome o c.dispatch.result (g.P.Ports.world c.args.ports.now) (g.P.Ports.world c.dispatch.new.ports)) same c.dispatch.ensures.outcome)

pub returns-in-Ok-clause-headline : goal.returns-in-Ok-clause-headline
returns-in-Ok-clause-headline g c = λ order bytes session orders told whole none.
    let old = g.P.Ports.world c.args.ports.now in
    let new = g.P.Ports.world c.dispatch.new.ports in
    let same = c.order_of.ensures ∙ one_order _ _ _ c.in-Ok.ensures.form orders in
    let outcome = subst (λ (o : Order). Outcome o c.dispatch.result old new) same c.dispatch.ensures.outcome in
    answered order.file order.report c.dispatch.result old new bytes session told whole none outcome.ends

pub returns-in-Ok-clause-promise : goal.returns-in-Ok-clause-promise
returns-in-Ok-clause-promise g c = λ order orders.
    let same = c.order_of.ensures ∙ one_order _ _ _ c.in-Ok.ensures.form orders in
    subst (λ (o : Order). Promise o c.dispatch.result (g.P.Ports.world c.args.ports.now) (g.P.Ports.world c.dispatch.new.ports)) same c.dispatch.ensures.promise
