use Rattle.std.proofs.Common.{◌≡◌, ◌∙◌, ◌*◌, ◌≤◌, ℕ, List, length, map, take, string_bytes, sym, ap₂, subst, arith}
use Rattle.std.proofs.lemmas.List.{length-take-le}
use Rattle.wire_frames.specs.declared.header.QueryHeader.{QueryHeader}
use Rattle.serve_core.specs.Taking.{IsGood}
use Rattle.serve_core.specs.Terms.{most_payload_for}
use Rattle.serve_core.proofs.RoomFor.{payload_fits}
use Rattle.shard_front.specs.Spread.{Spread, terms_of}
use Rattle.shard_front.specs.RelayedQuery.{relayed_over}
use Rattle.shard_front.specs.Stages.{RelaysQuery}
use Rattle.shard_front.proofs.Rooms.{vectors_len}
use Rattle.shard_front.proofs.serve.relay_query.Goals as goal

-- there is room for the vectors of a good query
vectors_there : (spread : Spread) (asked : QueryHeader) (long room : ℕ) → IsGood (terms_of spread) asked
    → long ≡ asked.count * spread.rows → room ≡ most_payload_for (terms_of spread) → long ≤ room
vectors_there spread asked long room good is whole =
    omega (arith, is, whole, vectors_len spread asked.count, payload_fits (terms_of spread) asked good.range good.shape)

pub slice_bounds-relay-end : goal.slice_bounds-relay-end
slice_bounds-relay-end g c =
    let n = c.from.result * c.rows.result in
    let there = vectors_there c.args.spread c.args.asked.now n (length c.as_slice-query.result.now) c.requires.good
    (ap₂ (λ (k r : ℕ). k * r) c.from.ensures c.rows.ensures.is) (c.as_slice-query.ensures.len ∙ c.requires.fits.query) in
    sym (length-take-le n c.as_slice-query.result.now there)

pub invariant_of-relay : goal.invariant_of-relay
invariant_of-relay g c =
    let n = c.from.result * c.rows.result in
    let size = ap₂ (λ (k r : ℕ). k * r) c.from.ensures c.rows.ensures.is in
    let there = vectors_there c.args.spread c.args.asked.now n (length c.as_slice-query.result.now) c.requires.good
    size (c.as_slice-query.ensures.len ∙ c.requires.fits.query) in
    record {
      spread = c.rows.ensures.spread;
      addresses = c.requires.addresses;
      good = c.requires.good;
      vectors = length-take-le n c.as_slice-query.result.now there ∙ size;
    }

pub relay_in-requires-clause-frame : goal.relay_in-requires-clause-frame
relay_in-requires-clause-frame g c = c.as_mut_slice-frame.ensures.len ∙ c.requires.fits.frame

pub returns-clause-relays : goal.returns-clause-relays
returns-clause-relays g c =
    let spread = c.args.spread in
    let asked = c.args.asked.now in
    let addresses = map string_bytes c.args.addresses.now in
    let old = g.P.Ports.world c.args.ports.now in
    let new = g.P.Ports.world c.relay_in.new.ports in
    let size = ap₂ (λ (k r : ℕ). k * r) c.from.ensures c.rows.ensures.is ∙ sym (vectors_len spread asked.count) in
    subst (λ (l : List ℕ). RelaysQuery (relayed_over spread addresses asked l) c.relay_in.result old new)
    (ap₂ (λ (n : ℕ) (l : List ℕ). take n l) size c.as_slice-query.ensures.value) c.relay_in.ensures.relays
