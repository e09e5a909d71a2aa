use Rattle.std.proofs.Common.{◌∙◌, Err, sym, subst}
use Rattle.commands.specs.FetchOrder.{FetchOrder}
use Rattle.commands.specs.Faults.{of_fetch}
use Rattle.commands.specs.FetchOutcome.{FetchEnds, FetchesBeside}
use Rattle.commands.specs.declared.status.Status.{Status}
use Rattle.commands.proofs.Fetching.{ends_unopened, ends_with_fault, ends_with_report, report_of_fetch, whole_of_fetch}
use Rattle.commands.proofs.fetch_command.fetch_block.Goals as goal

pub report_session-requires-clause-report : goal.report_session-requires-clause-report
report_session-requires-clause-report g c =
    let fetched = rw (← c.order.view_is) at c.in-Ok-fetch_uncounted.ensures.fetched in
    report_of_fetch _ _ _ _ _ _ _ c.order.invariant.0 fetched

pub returns-in-Ok-fetch_uncounted-clause-ends : goal.returns-in-Ok-fetch_uncounted-clause-ends
returns-in-Ok-fetch_uncounted-clause-ends g c =
    let fetched = rw (← c.order.view_is) at c.in-Ok-fetch_uncounted.ensures.fetched in
    let links = rw (← c.order.view_is) at c.fetch_uncounted.ensures.others in
    subst (λ (o : FetchOrder). FetchEnds o c.report_session.result (g.P.Ports.world c.args.ports.now) (g.P.Ports.world c.report_session.new.ports)) c.order.view_is
    (ends_with_report _ _ _ _ _ _ _ _ _ c.order.invariant.0 c.order.invariant.1 c.in-Ok.ensures.ok c.open.ensures.others fetched links c.report_session.ensures.reports c.report_session.ensures.others)

pub report_session-requires-clause-all : goal.report_session-requires-clause-all
report_session-requires-clause-all g c = whole_of_fetch _ _ _ _ _ _ _ c.in-Ok-fetch_uncounted.ensures.fetched

pub returns-in_default-clause-ends : goal.returns-in_default-clause-ends
returns-in_default-clause-ends g c = ends_unopened _ _ _ c.in_default.ensures.failed c.open.ensures.others

pub returns-in_default-clause-others : goal.returns-in_default-clause-others
returns-in_default-clause-others g c =
    let first = c.open.ensures.others in
    record { others = λ q l to_tell to_toss to_keep to_ask. first.others q l to_toss; crowd = first.crowd; started = first.started }

pub returns-in-Err-clause-ends : goal.returns-in-Err-clause-ends
returns-in-Err-clause-ends g c =
    let old = g.P.Ports.world c.args.ports.now in
    let opened = g.P.Ports.world c.open.new.self in
    let new = g.P.Ports.world c.fetch_uncounted.new.ports in
    let fetched = subst (λ (o : FetchOrder). FetchesBeside o (Err c.in-Err.fault) opened new) (sym c.order.view_is) c.in-Err.ensures.fetched in
    let links = rw (← c.order.view_is) at c.fetch_uncounted.ensures.others in
    subst (λ (s : Status). FetchEnds c.args.order.now s old new) (sym c.into.ensures)
    (subst (λ (o : FetchOrder). FetchEnds o (of_fetch c.in-Err.fault) old new) c.order.view_is
    (ends_with_fault _ _ _ _ c.order.invariant.0 c.in-Ok.ensures.ok c.open.ensures.others links c.in-Err.fault fetched))

pub returns-in-Err-clause-others : goal.returns-in-Err-clause-others
returns-in-Err-clause-others g c =
    let first = c.open.ensures.others in
    let asked = c.fetch_uncounted.ensures.others in
    record {
      others = λ q l to_tell to_toss to_keep to_ask. asked.others q l to_toss to_ask ∙ first.others q l to_toss;
      crowd = asked.crowd ∙ first.crowd;
      started = asked.started ∙ first.started;
    }

pub returns-in-Ok-fetch_uncounted-clause-others : goal.returns-in-Ok-fetch_uncounted-clause-others
returns-in-Ok-fetch_uncounted-clause-others g c =
    let first = c.open.ensures.others in
    let asked = c.fetch_uncounted.ensures.others in
    let told = c.report_session.ensures.others in
    record {
      others = λ q l to_tell to_toss to_keep to_ask. told.others q l to_tell to_keep ∙ asked.others q l to_toss to_ask ∙ first.others q l to_toss;
      crowd = told.crowd ∙ asked.crowd ∙ first.crowd;
      started = told.started ∙ asked.started ∙ first.started;
    }
