use Rattle.std.proofs.Common.{◌∙◌, map, string_bytes, sym, ap, subst}
use Rattle.shard_front.specs.Spread.{IsSpread, Spread, shards}
use Rattle.shard_front.specs.Fronted.{Fronts}
use Rattle.shard_front.specs.Relay.{FrontsTold}
use Rattle.shard_front.specs.Honest.{HonestTold}
use Rattle.shard_front.proofs.HonestShards.{honest_told}
use Rattle.shard_front.proofs.Telling.{fronts_told}
use Rattle.shard_front.proofs.front.Front.serve.Goals as goal

pub serve_within-requires-clause-addresses : goal.serve_within-requires-clause-addresses
serve_within-requires-clause-addresses g c =
    c.requires ∙ ap (λ (s : Spread). shards s) (sym c.self.view_is)

pub returns-clause-spread : goal.returns-clause-spread
returns-clause-spread g c = subst IsSpread c.self.view_is c.serve_within.ensures.spread

pub returns-clause-fronts : goal.returns-clause-fronts
returns-clause-fronts g c =
    let old = g.P.Ports.world c.args.ports.now in
    let new = g.P.Ports.world c.serve_within.new.ports in
    subst (λ (s : Spread). Fronts s (map string_bytes c.args.addresses.now) c.serve_within.result old new) c.self.view_is
    c.serve_within.ensures.fronts

pub returns-clause-told : goal.returns-clause-told
returns-clause-told g c =
    let old = g.P.Ports.world c.args.ports.now in
    let new = g.P.Ports.world c.serve_within.new.ports in
    let told = fronts_told c.self.inside.spread (map string_bytes c.args.addresses.now) c.serve_within.result old new
    c.serve_within.ensures.spread c.serve_within.ensures.fronts in
    subst (λ (s : Spread). FrontsTold s c.serve_within.result old new) c.self.view_is told

pub returns-clause-honest : goal.returns-clause-honest
returns-clause-honest g c =
    let old = g.P.Ports.world c.args.ports.now in
    let new = g.P.Ports.world c.serve_within.new.ports in
    let spread = c.self.inside.spread in
    let told = fronts_told spread (map string_bytes c.args.addresses.now) c.serve_within.result old new
    c.serve_within.ensures.spread c.serve_within.ensures.fronts in
    subst (λ (s : Spread). HonestTold s c.serve_within.result old new) c.self.view_is
    (honest_told spread c.serve_within.result old new c.serve_within.ensures.spread told)
