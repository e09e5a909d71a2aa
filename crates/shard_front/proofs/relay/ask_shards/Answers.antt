use Rattle.std.proofs.Common.{◌≡◌, ℕ, ◌+◌, ◌<◌, refl, subst, arith}
use Rattle.port_trait.specs.Number.{link}
use Rattle.port_trait.specs.declared.port.TheConstants.{PORT_COUNT}
use Rattle.port_trait.proofs.Ranges.{range_more}
use Rattle.shard_front.specs.Spread.{shards}
use Rattle.shard_front.specs.Asked.{SumsFirst}
use Rattle.shard_front.proofs.Summing.{lost_next, sums_more, sums_none}
use Rattle.shard_front.proofs.relay.ask_shards.Goals as goal

pub places-init : goal.places-init
places-init g c = record {
  sums = sums_none c.args.relay.now c.clear.new.row (g.P.Ports.world c.args.ports.now) c.clear.ensures;
  fits = c.requires.fits;
}

pub returns-then-not-add_shard-clause-asks : goal.returns-then-not-add_shard-clause-asks
returns-then-not-add_shard-clause-asks g c =
    let relay = c.args.relay.now in
    let place = c.places.place in
    let old = g.P.Ports.world c.args.ports.now in
    let mid = g.P.Ports.world c.places.ports in
    let new = g.P.Ports.world c.add_shard.new.ports in
    let so_far = c.places.invariant.sums in
    let test = c.places-test.true in
    let few = c.shards-place-end.ensures.few in
    let fits : link 1 + place < PORT_COUNT = omega (arith, test, few) in
    let there : place < shards relay.spread = omega (arith, test, c.shards-place-end.ensures.is) in (
      lost_next relay place (place + 1) c.places.sum old mid new fits there refl so_far
          c.if-not-add_shard.ensures.asks c.if-not-add_shard.ensures.others,
      range_more (link 1) place old mid new so_far.others c.if-not-add_shard.ensures.others,
    )

pub places-preserved : goal.places-preserved
places-preserved g c =
    let place = c.places.place in
    let old = g.P.Ports.world c.args.ports.now in
    let mid = g.P.Ports.world c.places.ports in
    let new = g.P.Ports.world c.add_shard.new.ports in
    let test = c.places-test.true in
    let few = c.shards-place-end.ensures.few in
    let fits : link 1 + place < PORT_COUNT = omega (arith, test, few) in
    record {
      sums = sums_more c.args.relay.now place c.places.sum c.add_shard.new.sum old mid new fits
          c.places.invariant.sums c.if-not-add_shard.ensures.asks c.if-not-add_shard.ensures.others;
      fits = c.add_shard.ensures.fits;
    }

pub add_shard-requires-clause-there : goal.add_shard-requires-clause-there
add_shard-requires-clause-there g c = omega (arith, c.places-test.true, c.shards-place-end.ensures.is)

pub returns-clause-asks : goal.returns-clause-asks
returns-clause-asks g c =
    let relay = c.args.relay.now in
    let old = g.P.Ports.world c.args.ports.now in
    let new = g.P.Ports.world c.places.ports in
    let all : c.places.place ≡ shards relay.spread
    = omega (arith, c.places-test.false, c.places.auto.place-end, c.shards-place-end.ensures.is) in
    subst (λ (n : ℕ). SumsFirst relay n c.places.sum old new) all c.places.invariant.sums
