use Rattle.std.proofs.Common.{◌≡◌, ◌∙◌, ◌*◌, ◌≤◌, ◌++◌, ℕ, length, take, refl, sym, ap, ap₂, subst, arith}
use Rattle.std.proofs.lemmas.List.{length-take-le}
use Rattle.wire_frames.specs.Header.{answer_header}
use Rattle.wire_frames.specs.Sizes.{answer_len}
use Rattle.wire_frames.specs.declared.header.QueryHeader.{QueryHeader}
use Rattle.serve_core.specs.Terms.{most_blocks_for}
use Rattle.shard_front.specs.declared.relayed.Relayed.TheVariants.{Served, ShardLost}
use Rattle.shard_front.specs.Spread.{terms_of}
use Rattle.shard_front.specs.RelayedQuery.{RelayedQuery}
use Rattle.shard_front.specs.Room.{most_answer_for}
use Rattle.shard_front.specs.Asked.{lost_frame}
use Rattle.shard_front.specs.Stages.{Gives}
use Rattle.shard_front.proofs.Fronting.{all_answer}
use Rattle.shard_front.proofs.Parting.{not_short, rest_size}
use Rattle.shard_front.proofs.Rooms.{answer_fits}
use Rattle.shard_front.proofs.serve.relay_in.Goals as goal

-- the header of a query that is relayed
module _ (relay : RelayedQuery) (header : QueryHeader) (is : header ≡ relay.header) (width : header.s ≡ relay.spread.width) where
  -- its answer is as long as one to the query
  answer_size : (long : ℕ) → long ≡ answer_len header.count header.s → long ≡ answer_len relay.header.count relay.spread.width
  answer_size long size = size ∙ ap₂ answer_len (ap (λ (h : QueryHeader). h.count) is) width

  -- and has its place in the room
  answer_there : (long room : ℕ) → header.count ≤ most_blocks_for (terms_of relay.spread) → long ≡ answer_len header.count header.s
      → room ≡ most_answer_for relay.spread → long ≤ room
  answer_there long room few size whole =
      let count = subst (λ (h : QueryHeader). h.count ≤ most_blocks_for (terms_of relay.spread)) is few in
      omega (arith, answer_size long size, whole, answer_fits relay.spread relay.header.count count)

pub slice_bounds-frame-end : goal.slice_bounds-frame-end
slice_bounds-frame-end g c =
    let h = c.header-asked in
    answer_there c.args.relay.now h.result.now h.ensures.is h.ensures.width c.answer_len.result (length c.args.frame.now)
    h.ensures.few c.answer_len.ensures c.requires.frame

pub slice_bounds-frame-end-2 : goal.slice_bounds-frame-end-2
slice_bounds-frame-end-2 g c =
    let h = c.header-asked in
    sym (length-take-le c.answer_len.result c.args.frame.now
    (answer_there c.args.relay.now h.result.now h.ensures.is h.ensures.width c.answer_len.result (length c.args.frame.now)
    h.ensures.few c.answer_len.ensures c.requires.frame))

pub ask_shards-requires-clause-sum : goal.ask_shards-requires-clause-sum
ask_shards-requires-clause-sum g c =
    let relay = c.args.relay.now in
    let h = c.header-asked in
    let there = answer_there relay h.result.now h.ensures.is h.ensures.width c.answer_len.result (length c.args.frame.now)
    h.ensures.few c.answer_len.ensures c.requires.frame in
    let long = length-take-le c.answer_len.result c.args.frame.now there
    ∙ answer_size relay h.result.now h.ensures.is h.ensures.width c.answer_len.result c.answer_len.ensures in
    rest_size (take c.answer_len.result c.args.frame.now) c.in-Some.sum.now (relay.header.count * relay.spread.width)
    c.in-Some.ensures.cases.1 long

pub unreachable-requires : goal.unreachable-requires
unreachable-requires g c =
    let relay = c.args.relay.now in
    let h = c.header-asked in
    let there = answer_there relay h.result.now h.ensures.is h.ensures.width c.answer_len.result (length c.args.frame.now)
    h.ensures.few c.answer_len.ensures c.requires.frame in
    let long = length-take-le c.answer_len.result c.args.frame.now there
    ∙ answer_size relay h.result.now h.ensures.is h.ensures.width c.answer_len.result c.answer_len.ensures in
    not_short (relay.header.count * relay.spread.width) _ c.in_default.ensures.cases long

pub write_header-requires : goal.write_header-requires
write_header-requires g c = c.header-asked.ensures.range

pub give_lost-requires : goal.give_lost-requires
give_lost-requires g c = c.header-asked.ensures.range

pub ask_shards-requires-clause-fits : goal.ask_shards-requires-clause-fits
ask_shards-requires-clause-fits g c = c.requires.fits

pub returns-in-None-clause-fits : goal.returns-in-None-clause-fits
returns-in-None-clause-fits g c = c.in-None.ensures.fits

pub returns-in-Some-ask_shards-clause-fits : goal.returns-in-Some-ask_shards-clause-fits
returns-in-Some-ask_shards-clause-fits g c = c.in-Some-ask_shards.ensures.fits

pub returns-in-None-clause-relays : goal.returns-in-None-clause-relays
returns-in-None-clause-relays g c =
    let relay = c.args.relay.now in
    let old = g.P.Ports.world c.args.ports.now in
    let mid = g.P.Ports.world c.ask_shards.new.ports in
    let frame = c.write_header.new.out ++ c.ask_shards.new.sum in
    let sums = c.in-None.ensures.asks in
    record {
      met = Served;
      frame = frame;
      mid = mid;
      asked = all_answer relay frame c.write_header.new.out c.ask_shards.new.sum old mid refl
          (c.write_header.ensures ∙ ap (λ (h : QueryHeader). answer_header h 0) c.header-asked.ensures.is)
          c.in-None.ensures.size sums;
      links = sums.others;
      gives = c.give.ensures.gives;
      others = c.give.ensures.others;
    }

pub returns-in-Some-ask_shards-clause-relays : goal.returns-in-Some-ask_shards-clause-relays
returns-in-Some-ask_shards-clause-relays g c =
    let number = c.in-Some-ask_shards.number in
    let lost = c.in-Some-ask_shards.ensures.asks in
    let mid = g.P.Ports.world c.ask_shards.new.ports in
    let new = g.P.Ports.world c.give_lost.new.ports in
    record {
      met = ShardLost number;
      frame = lost_frame c.args.relay.now.header number;
      mid = mid;
      asked = (lost.0, refl);
      links = lost.1;
      gives = subst (λ (h : QueryHeader). Gives (ShardLost number) (lost_frame h number) c.give_lost.result mid new) c.header-asked.ensures.is
          c.give_lost.ensures.gives;
      others = c.give_lost.ensures.others;
    }
