use Rattle.std.proofs.Common.{Bool, false, List, Option, map, string_bytes, sym, subst}
use Rattle.std.specs.Prelude.{Result}
use Rattle.wire_frames.specs.Session.{Transcript}
use Rattle.block_decoder.specs.Report.{Agreement}
use Rattle.block_decoder.specs.declared.verdict.Verdict.{Verdict}
use Rattle.query_rounds.specs.declared.plan.FetchFault.{FetchFault}
use Rattle.query_rounds.specs.Gathered.{FetchesTo, TouchesLinks}
use Rattle.query_rounds.specs.Request.{request}
use Rattle.commands.specs.FetchOrder.{FetchOrder}
use Rattle.commands.specs.FetchOutcome.{ConcludesBeside, FetchesBeside}
use Rattle.commands.proofs.Fetching.{fetches_plain, fetches_whole}
use Rattle.commands.proofs.fetch_command.fetch_counted.Goals as goal

pub returns-then-order-clause-fetched : goal.returns-then-order-clause-fetched
returns-then-order-clause-fetched g c =
    let o = c.order.inside in
    let r = request o.plan o.blocks.now (map string_bytes o.addresses.now) in
    let old = g.P.Ports.world c.args.ports.now in
    let new = g.P.Ports.world c.fetch_report.new.ports in
    subst (λ (v : FetchOrder). FetchesBeside v c.fetch_report.result old new) c.order.view_is
    (subst (λ (b : Bool). FetchesTo (ConcludesBeside b r) r c.fetch_report.result old new) (sym c.if-order.true)
    (fetches_whole r _ _ _ c.fetch_report.ensures.fetched))

pub returns-else-order-clause-fetched : goal.returns-else-order-clause-fetched
returns-else-order-clause-fetched g c =
    let o = c.order.inside in
    let r = request o.plan o.blocks.now (map string_bytes o.addresses.now) in
    let old = g.P.Ports.world c.args.ports.now in
    let new = g.P.Ports.world c.fetch.new.ports in
    subst (λ (v : FetchOrder). FetchesBeside v c.without_report.result old new) c.order.view_is
    (subst (λ (b : Bool). FetchesTo (ConcludesBeside b r) r c.without_report.result old new) (sym c.if-order.false)
    (subst (λ (a : Result (Transcript × Verdict × Option (List Agreement)) FetchFault). FetchesTo (ConcludesBeside false r) r a old new) (sym c.without_report.ensures)
    (fetches_plain r _ _ _ c.fetch.ensures.fetched)))

pub fetch_report-requires-clause-plan : goal.fetch_report-requires-clause-plan
fetch_report-requires-clause-plan g c = c.order.invariant.0

pub fetch_report-requires-clause-blocks : goal.fetch_report-requires-clause-blocks
fetch_report-requires-clause-blocks g c = c.order.invariant.1

pub fetch_report-requires-clause-addresses : goal.fetch_report-requires-clause-addresses
fetch_report-requires-clause-addresses g c = c.order.invariant.2

pub fetch-requires-clause-plan : goal.fetch-requires-clause-plan
fetch-requires-clause-plan g c = c.order.invariant.0

pub fetch-requires-clause-blocks : goal.fetch-requires-clause-blocks
fetch-requires-clause-blocks g c = c.order.invariant.1

pub fetch-requires-clause-addresses : goal.fetch-requires-clause-addresses
fetch-requires-clause-addresses g c = c.order.invariant.2

pub returns-then-order-clause-others : goal.returns-then-order-clause-others
returns-then-order-clause-others g c =
    subst (λ (v : FetchOrder). TouchesLinks v.plan.n (g.P.Ports.world c.args.ports.now) (g.P.Ports.world c.fetch_report.new.ports)) c.order.view_is c.fetch_report.ensures.others

pub returns-else-order-clause-others : goal.returns-else-order-clause-others
returns-else-order-clause-others g c =
    subst (λ (v : FetchOrder). TouchesLinks v.plan.n (g.P.Ports.world c.args.ports.now) (g.P.Ports.world c.fetch.new.ports)) c.order.view_is c.fetch.ensures.others
