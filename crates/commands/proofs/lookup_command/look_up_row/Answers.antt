use Rattle.std.proofs.Common.{◌∙◌, inl, lit<, sym, subst, arith}
use Rattle.std.specs.Prelude.{Err}
use Rattle.port_trait.specs.Number.{COINS, OUTPUT}
use Rattle.key_fetches.specs.LookedUp.{LooksUp}
use Rattle.commands.specs.Faults.{of_fetch}
use Rattle.commands.specs.LookUpOrder.{LookUpOrder}
use Rattle.commands.specs.LookUpOutcome.{LookUpEnds, key_request_by}
use Rattle.commands.specs.declared.status.Status.{Status}
use Rattle.commands.proofs.LookingUp.{ends_with_end, ends_with_fault}
use Rattle.commands.proofs.lookup_command.look_up_row.Goals as goal

pub returns-in-Ok-look_up_uncounted-clause-ends : goal.returns-in-Ok-look_up_uncounted-clause-ends
returns-in-Ok-look_up_uncounted-clause-ends g c =
    let looked = rw (← c.order.view_is) at c.in-Ok-look_up_uncounted.ensures.looked in
    let links = rw (← c.order.view_is) at c.look_up_uncounted.ensures.others in
    subst (λ (o : LookUpOrder). LookUpEnds o c.report_end.result (g.P.Ports.world c.args.ports.now) (g.P.Ports.world c.report_end.new.ports)) c.order.view_is
    (ends_with_end _ _ _ _ c.order.invariant.0 c.in-Ok.ensures.ok c.open.ensures.others links _ _ _ looked c.report_end.ensures.told c.report_end.ensures.others)

pub returns-in-Err-clause-ends : goal.returns-in-Err-clause-ends
returns-in-Err-clause-ends g c =
    let opened = g.P.Ports.world c.open.new.self in
    let looked = subst (λ (o : LookUpOrder). LooksUp (key_request_by o) (Err c.in-Err.fault) (opened.at COINS) opened
    (g.P.Ports.world c.look_up_uncounted.new.ports)) (sym c.order.view_is) c.in-Err.ensures.looked in
    let links = rw (← c.order.view_is) at c.look_up_uncounted.ensures.others in
    let old = g.P.Ports.world c.args.ports.now in
    let new = g.P.Ports.world c.look_up_uncounted.new.ports in
    subst (λ (s : Status). LookUpEnds c.args.order.now s old new) (sym c.into.ensures)
    (subst (λ (o : LookUpOrder). LookUpEnds o (of_fetch c.in-Err.fault) old new) c.order.view_is
    (ends_with_fault _ _ _ _ c.order.invariant.0 c.in-Ok.ensures.ok c.open.ensures.others links c.in-Err.fault looked))

pub returns-in_default-clause-ends : goal.returns-in_default-clause-ends
returns-in_default-clause-ends g c = record {
  part = inl (c.in_default.ensures.failed, c.open.ensures.others);
  output = c.open.ensures.others.others OUTPUT (lit< tt) (λ e. omega (arith, e));
}

pub returns-in_default-clause-others : goal.returns-in_default-clause-others
returns-in_default-clause-others g c =
    let first = c.open.ensures.others in
    record { others = λ q l to_tell to_toss to_ask. first.others q l to_toss; crowd = first.crowd; started = first.started }

pub returns-in-Err-clause-others : goal.returns-in-Err-clause-others
returns-in-Err-clause-others g c =
    let first = c.open.ensures.others in
    let asked = c.look_up_uncounted.ensures.others in
    record {
      others = λ q l to_tell to_toss to_ask. asked.others q l to_toss to_ask ∙ first.others q l to_toss;
      crowd = asked.crowd ∙ first.crowd;
      started = asked.started ∙ first.started;
    }

pub returns-in-Ok-look_up_uncounted-clause-others : goal.returns-in-Ok-look_up_uncounted-clause-others
returns-in-Ok-look_up_uncounted-clause-others g c =
    let first = c.open.ensures.others in
    let asked = c.look_up_uncounted.ensures.others in
    let told = c.report_end.ensures.others in
    record {
      others = λ q l to_tell to_toss to_ask. told.others q l to_tell ∙ asked.others q l to_toss to_ask ∙ first.others q l to_toss;
      crowd = told.crowd ∙ asked.crowd ∙ first.crowd;
      started = told.started ∙ asked.started ∙ first.started;
    }
