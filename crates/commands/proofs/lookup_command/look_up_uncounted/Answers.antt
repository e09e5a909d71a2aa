use Rattle.std.proofs.Common.{subst}
use Rattle.port_trait.specs.Number.{COINS}
use Rattle.query_rounds.specs.Gathered.{TouchesLinks}
use Rattle.key_fetches.specs.KeyRequest.{KeyRequest}
use Rattle.key_fetches.specs.LookedUp.{LooksUp}
use Rattle.commands.specs.LookUpOrder.{LookUpOrder}
use Rattle.commands.specs.LookUpOutcome.{key_request_by}
use Rattle.commands.proofs.lookup_command.look_up_uncounted.Goals as goal

pub new-cols-requires-clause-name : goal.new-cols-requires-clause-name
new-cols-requires-clause-name g c = c.requires.cols.0

pub new-cols-requires-clause-parts : goal.new-cols-requires-clause-parts
new-cols-requires-clause-parts g c = c.requires.cols.1

pub new-cols-requires-clause-some : goal.new-cols-requires-clause-some
new-cols-requires-clause-some g c = c.requires.cols.2

pub new-nodes-requires-clause-name : goal.new-nodes-requires-clause-name
new-nodes-requires-clause-name g c = c.requires.nodes.0

pub new-nodes-requires-clause-parts : goal.new-nodes-requires-clause-parts
new-nodes-requires-clause-parts g c = c.requires.nodes.1

pub new-nodes-requires-clause-some : goal.new-nodes-requires-clause-some
new-nodes-requires-clause-some g c = c.requires.nodes.2

pub new-request-requires-clause-plan : goal.new-request-requires-clause-plan
new-request-requires-clause-plan g c = c.order.invariant.0

pub new-request-requires-clause-shamir : goal.new-request-requires-clause-shamir
new-request-requires-clause-shamir g c = c.order.invariant.1

pub new-request-requires-clause-key : goal.new-request-requires-clause-key
new-request-requires-clause-key g c = c.order.invariant.2

pub new-request-requires-clause-addresses : goal.new-request-requires-clause-addresses
new-request-requires-clause-addresses g c = c.order.invariant.3

pub returns-clause-looked : goal.returns-clause-looked
returns-clause-looked g c =
    let old = g.P.Ports.world c.args.ports.now in
    let new = g.P.Ports.world c.look_up.new.ports in
    subst (λ (v : LookUpOrder). LooksUp (key_request_by v) c.look_up.result (old.at COINS) old new) c.order.view_is
    (subst (λ (r : KeyRequest). LooksUp r c.look_up.result (old.at COINS) old new) c.new-request.ensures c.look_up.ensures.looked)

pub returns-clause-others : goal.returns-clause-others
returns-clause-others g c =
    let old = g.P.Ports.world c.args.ports.now in
    let new = g.P.Ports.world c.look_up.new.ports in
    subst (λ (v : LookUpOrder). TouchesLinks v.plan.n old new) c.order.view_is
    (subst (λ (r : KeyRequest). TouchesLinks r.plan.n old new) c.new-request.ensures c.look_up.ensures.others)
