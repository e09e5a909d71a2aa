use Rattle.std.proofs.Common.{◌∙◌, ℕ, ◌≤◌, List, inl, length, map, string_bytes, sym, subst, arith}
use Rattle.std.proofs.lemmas.List.{take_at}
use Rattle.serve_core.specs.declared.met.Met.TheVariants.{Refused, Gone}
use Rattle.serve_core.specs.Taking.{BreaksTaking, Dismisses, TakesQuery}
use Rattle.serve_core.specs.Terms.{most_payload_for}
use Rattle.shard_front.specs.Spread.{Spread, terms_of}
use Rattle.shard_front.specs.RelayedQuery.{taken_from}
use Rattle.shard_front.specs.Stages.{RelaysQuery}
use Rattle.shard_front.proofs.Fronting.{fronts_query}
use Rattle.shard_front.proofs.Spreads.{spread_by}
use Rattle.shard_front.proofs.serve.serve_within.Goals as goal

pub take_query-requires : goal.take_query-requires
take_query-requires g c =
    let slice = c.as_mut_slice-query.result.now in
    let same = spread_by c.args.spread c.rows.result c.width.result c.rows.ensures.is c.width.ensures in
    record {
      room = subst (λ (s : Spread). most_payload_for (terms_of s) ≤ length slice) (sym same)
          (subst (λ (n : ℕ). most_payload_for (terms_of c.args.spread) ≤ n)
          (sym (c.as_mut_slice-query.ensures.len ∙ c.requires.fits.query)) (omega arith));
    }

pub returns-in-Query-clause-fronts : goal.returns-in-Query-clause-fronts
returns-in-Query-clause-fronts g c =
    let spread = c.args.spread in
    let addresses = map string_bytes c.args.addresses.now in
    let asked = c.in-Query.asked in
    let slice = c.take_query.new.query in
    let result = c.relay_query.result in
    let old = g.P.Ports.world c.args.ports.now in
    let mid = g.P.Ports.world c.take_query.new.ports in
    let new = g.P.Ports.world c.relay_query.new.ports in
    let back = take_at slice _ c.args.room.now.query.len (c.take_query.auto.query ∙ c.as_mut_slice-query.ensures.len) in
    let relays = subst (λ (l : List ℕ). RelaysQuery (taken_from spread addresses asked l) result mid new) back c.relay_query.ensures.relays in
    let same = spread_by spread c.rows.result c.width.result c.rows.ensures.is c.width.ensures in
    let takes = subst (λ (s : Spread). TakesQuery (terms_of s) asked slice old mid) same c.in-Query.ensures.takes in
    fronts_query spread c.rows.ensures.spread asked slice addresses old mid new takes c.in-Query.ensures.others result relays

pub returns-in-Refused-clause-fronts : goal.returns-in-Refused-clause-fronts
returns-in-Refused-clause-fronts g c =
    let old = g.P.Ports.world c.args.ports.now in
    let new = g.P.Ports.world c.take_query.new.ports in
    let same = spread_by c.args.spread c.rows.result c.width.result c.rows.ensures.is c.width.ensures in
    (subst (λ (s : Spread). Dismisses (terms_of s) (Refused c.in-Refused.status) old new) same c.in-Refused.ensures.takes, c.in-Refused.ensures.others)

pub returns-in-Gone-clause-fronts : goal.returns-in-Gone-clause-fronts
returns-in-Gone-clause-fronts g c =
    let old = g.P.Ports.world c.args.ports.now in
    let new = g.P.Ports.world c.take_query.new.ports in
    let same = spread_by c.args.spread c.rows.result c.width.result c.rows.ensures.is c.width.ensures in
    (subst (λ (s : Spread). Dismisses (terms_of s) Gone old new) same c.in-Gone.ensures.takes, c.in-Gone.ensures.others)

pub returns-in-GuestFault-clause-fronts : goal.returns-in-GuestFault-clause-fronts
returns-in-GuestFault-clause-fronts g c =
    let old = g.P.Ports.world c.args.ports.now in
    let new = g.P.Ports.world c.take_query.new.ports in
    let same = spread_by c.args.spread c.rows.result c.width.result c.rows.ensures.is c.width.ensures in
    inl (subst (λ (s : Spread). BreaksTaking (terms_of s) old new) same c.in-GuestFault.ensures.takes, c.in-GuestFault.ensures.others)
