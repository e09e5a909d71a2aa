use Rattle.std.proofs.Common.{◌≡◌, map, string_bytes, refl, subst, sym, arith}
use Rattle.query_rounds.proofs.Ranges.{one_block}
use Rattle.commands.specs.DemoOrder.{DemoOrder, addresses_of_children, words_of_children}
use Rattle.commands.specs.DemoOutcome.{DemoOutcome, StartsSome}
use Rattle.commands.specs.FetchOrder.{FetchOrder}
use Rattle.commands.specs.FetchOutcome.{FetchEnds, TouchesFetch}
use Rattle.commands.proofs.Demonstrating.{demonstrates, size_of_addresses, size_of_words}
use Rattle.commands.proofs.demo_command.fetch_from_children.Goals as goal

-- as many lists of words as there are children
pub start_children-requires : goal.start_children-requires
start_children-requires g c =
    let words = subst (λ (d : DemoOrder). map (λ w. map string_bytes w.items) c.args.lists.now ≡ words_of_children d) (sym c.order.view_is) c.requires.words in
    let size = size_of_words (λ w. map string_bytes w.items) _ c.args.lists.now c.order.inside.plan.n words in
    omega (arith, size, c.order.invariant.1.numbers.few_servers)

pub returns-in_default : goal.returns-in_default
returns-in_default g c =
    subst (λ l. StartsSome l (g.P.Ports.world c.args.ports.now) (g.P.Ports.world c.start_children.new.ports)) c.requires.words c.in_default.ensures.failed

-- the plan is one, of as many servers as there are addresses
pub plain-fetching-requires : goal.plain-fetching-requires
plain-fetching-requires g c =
    let o = c.order.inside in
    let at = subst (λ (d : DemoOrder). map string_bytes c.args.addresses.now ≡ addresses_of_children d) (sym c.order.view_is) c.requires.addresses in
    record {
      plan = c.order.invariant.1;
      blocks = one_block o.plan o.block c.order.invariant.1 c.order.invariant.2;
      servers = size_of_addresses string_bytes c.args.addresses.now c.args.addresses.now o.port o.plan.n at refl;
    }

pub returns : goal.returns
returns g c =
    let o = c.order.inside in
    let start = g.P.Ports.world c.args.ports.now in
    let mid = g.P.Ports.world c.start_children.new.ports in
    let end = g.P.Ports.world c.fetch_block.new.ports in
    let view : DemoOrder = record { port = o.port; database = o.database.now; plan = o.plan; block = o.block; coins = o.coins.now } in
    let at = subst (λ (d : DemoOrder). map string_bytes c.args.addresses.now ≡ addresses_of_children d) (sym c.order.view_is) c.requires.addresses in
    let words = subst (λ (d : DemoOrder). map (λ w. map string_bytes w.items) c.args.lists.now ≡ words_of_children d) (sym c.order.view_is) c.requires.words in
    let ends = subst (λ (f : FetchOrder). FetchEnds f c.fetch_block.result mid end) c.plain-fetching.ensures c.fetch_block.ensures.ends in
    let others = subst (λ (f : FetchOrder). TouchesFetch f.plan.n mid end) c.plain-fetching.ensures c.fetch_block.ensures.others in
    subst (λ (d : DemoOrder). DemoOutcome d c.fetch_block.result start end) c.order.view_is
    (demonstrates view (map string_bytes c.args.addresses.now) _ c.fetch_block.result start mid end at words c.in-Ok.ensures.ok ends others)
