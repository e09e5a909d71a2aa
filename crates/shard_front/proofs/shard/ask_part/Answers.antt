use Rattle.std.proofs.Common.{◌≡◌, ◌∙◌, ℕ, ◌+◌, ◌*◌, ◌<◌, ◌≤◌, length, take, refl, sym, ap, ap₂, subst, arith}
use Rattle.std.proofs.lemmas.List.{length-take-le}
use Rattle.port_trait.specs.Number.{link}
use Rattle.port_trait.specs.Moves.{Touches}
use Rattle.wire_frames.specs.declared.header.QueryHeader.{QueryHeader}
use Rattle.wire_frames.specs.declared.scheme.Scheme.TheVariants.{Shamir}
use Rattle.wire_frames.specs.declared.sizes.TheConstants.{FRAME_HEADER_LEN}
use Rattle.wire_frames.specs.Sizes.{answer_len, query_len}
use Rattle.serve_core.specs.Terms.{most_blocks_for}
use Rattle.shard_front.specs.Spread.{rows_in, terms_of}
use Rattle.shard_front.specs.Parts.{Part, part_answer_len, part_header, part_len}
use Rattle.shard_front.specs.Room.{most_answer_for, most_part_for}
use Rattle.shard_front.specs.Parts.{part_at}
use Rattle.shard_front.proofs.Rooms.{answer_fits, part_fits}
use Rattle.shard_front.proofs.Sharding.{asks_none, asks_some}
use Rattle.shard_front.proofs.shard.ask_part.Goals as goal

-- the header of a part
module _ (part : Part) (header : QueryHeader) (is : header ≡ part_header part) (width : header.s ≡ part.spread.width) where
  -- the query with that header is as long as the part
  part_size : (long : ℕ) → long ≡ query_len Shamir header.count header.r → long ≡ part_len part.spread part.query.count part.place
  part_size long size = size ∙ ap (λ (h : QueryHeader). query_len Shamir h.count h.r) is

  -- and its answer as long as one to the part
  answer_size : (long : ℕ) → long ≡ answer_len header.count header.s → long ≡ part_answer_len part
  answer_size long size = size ∙ ap₂ answer_len (ap (λ (h : QueryHeader). h.count) is) width

  -- as many bytes are summed as it has
  sum_size : (long : ℕ) → long ≡ part.query.count * part.spread.width → long ≡ header.count * header.s
  sum_size long size = size ∙ sym (ap₂ ◌*◌ (ap (λ (h : QueryHeader). h.count) is) width)

  module _ (few : header.count ≤ most_blocks_for (terms_of part.spread)) where
    few_blocks : part.query.count ≤ most_blocks_for (terms_of part.spread)
    few_blocks = subst (λ (h : QueryHeader). h.count ≤ most_blocks_for (terms_of part.spread)) is few

    -- the part has its place in the room
    part_there : (long room : ℕ) → long ≡ query_len Shamir header.count header.r → room ≡ most_part_for part.spread → long ≤ room
    part_there long room size whole = omega (arith, part_size long size, whole, part_fits part.spread part.query.count few_blocks part.place)

    -- and so has its answer
    answer_there : (long room : ℕ) → long ≡ answer_len header.count header.s → room ≡ most_answer_for part.spread → long ≤ room
    answer_there long room size whole = omega (arith, answer_size long size, whole, answer_fits part.spread part.query.count few_blocks)

-- a frame has a byte at least
some_frame : (long size : ℕ) → long ≡ FRAME_HEADER_LEN + size → 0 < long
some_frame long size is = omega arith

-- the link of the shard at a place
link_there : (place : ℕ) → link (place + 1) ≡ link 1 + place
link_there place = omega arith

pub slice_bounds-part-end : goal.slice_bounds-part-end
slice_bounds-part-end g c =
    let header = c.header_to-header in
    part_there (part_at c.args.relay.now c.args.place) header.result header.ensures.is header.ensures.width header.ensures.few
    c.query_len.result (length c.args.part.now) c.query_len.ensures
    c.requires.part

pub slice_bounds-part-end-2 : goal.slice_bounds-part-end-2
slice_bounds-part-end-2 g c =
    let header = c.header_to-header in
    let there = part_there (part_at c.args.relay.now c.args.place) header.result header.ensures.is header.ensures.width header.ensures.few
    c.query_len.result (length c.args.part.now) c.query_len.ensures
    c.requires.part in
    sym (length-take-le c.query_len.result c.args.part.now there)

pub write_part-requires-clause-room : goal.write_part-requires-clause-room
write_part-requires-clause-room g c =
    let header = c.header_to-header in
    let part = part_at c.args.relay.now c.args.place in
    let there = part_there part header.result header.ensures.is header.ensures.width header.ensures.few
    c.query_len.result (length c.args.part.now) c.query_len.ensures
    c.requires.part in
    length-take-le c.query_len.result c.args.part.now there
    ∙ part_size part header.result header.ensures.is header.ensures.width c.query_len.result c.query_len.ensures

pub slice_bounds-answer-end : goal.slice_bounds-answer-end
slice_bounds-answer-end g c =
    let header = c.header_to-header in
    answer_there (part_at c.args.relay.now c.args.place) header.result header.ensures.is header.ensures.width header.ensures.few
    c.answer_len.result (length c.args.answer.now) c.answer_len.ensures
    c.requires.answer

pub slice_bounds-answer-end-2 : goal.slice_bounds-answer-end-2
slice_bounds-answer-end-2 g c =
    let header = c.header_to-header in
    let there = answer_there (part_at c.args.relay.now c.args.place) header.result header.ensures.is header.ensures.width header.ensures.few
    c.answer_len.result (length c.args.answer.now) c.answer_len.ensures
    c.requires.answer in
    sym (length-take-le c.answer_len.result c.args.answer.now there)

-- a part has a byte at least
some_part : (part : Part) (long : ℕ) → long ≡ part_len part.spread part.query.count part.place → 0 < long
some_part part long is = some_frame long (part.query.count * rows_in part.spread part.place) is

pub ask-requires-clause-frame : goal.ask-requires-clause-frame
ask-requires-clause-frame g c =
    let header = c.header_to-header in
    let part = part_at c.args.relay.now c.args.place in
    let there = part_there part header.result header.ensures.is header.ensures.width header.ensures.few
    c.query_len.result (length c.args.part.now) c.query_len.ensures
    c.requires.part in
    some_part part (length c.write_part.new.part)
    (c.write_part.auto.part ∙ length-take-le c.query_len.result c.args.part.now there
    ∙ part_size part header.result header.ensures.is header.ensures.width c.query_len.result c.query_len.ensures)

pub ask-requires-clause-answer : goal.ask-requires-clause-answer
ask-requires-clause-answer g c =
    let header = c.header_to-header in
    let part = part_at c.args.relay.now c.args.place in
    let there = answer_there part header.result header.ensures.is header.ensures.width header.ensures.few
    c.answer_len.result (length c.args.answer.now) c.answer_len.ensures
    c.requires.answer in
    some_frame _ (header.result.count * header.result.s)
    (length-take-le c.answer_len.result c.args.answer.now there ∙ c.answer_len.ensures)

pub overflow_add-place : goal.overflow_add-place
overflow_add-place g c = omega (arith, c.address-address.ensures.few)

pub add_payload-requires : goal.add_payload-requires
add_payload-requires g c =
    let header = c.header_to-header in
    sum_size (part_at c.args.relay.now c.args.place) header.result header.ensures.is header.ensures.width
    (length c.args.sum.now) c.requires.sum

pub slice_bounds-add_payload-end : goal.slice_bounds-add_payload-end
slice_bounds-add_payload-end g c =
    sym (length-take-le c.in-Some.came c.ask.new.answer c.in-Some.ensures.fits)

pub returns-in-Some-clause-asks : goal.returns-in-Some-clause-asks
returns-in-Some-clause-asks g c =
    let header = c.header_to-header in
    let part = part_at c.args.relay.now c.args.place in
    let there = answer_there part header.result header.ensures.is header.ensures.width header.ensures.few
    c.answer_len.result (length c.args.answer.now) c.answer_len.ensures
    c.requires.answer in
    let most = length-take-le c.answer_len.result c.args.answer.now there
    ∙ answer_size part header.result header.ensures.is header.ensures.width c.answer_len.result c.answer_len.ensures in
    asks_some part c.address-address.result.now c.write_part.new.part _ (c.args.place + 1) header.result
    (g.P.Ports.world c.args.ports.now) (g.P.Ports.world c.ask.new.ports) refl c.address-address.ensures.is c.write_part.ensures
    most header.ensures.is (take c.in-Some.came c.ask.new.answer) c.add_payload.result c.args.sum.now c.add_payload.new.sum
    c.in-Some.ensures.asked c.add_payload.ensures

pub returns-in-None-clause-asks : goal.returns-in-None-clause-asks
returns-in-None-clause-asks g c =
    let header = c.header_to-header in
    let part = part_at c.args.relay.now c.args.place in
    let there = answer_there part header.result header.ensures.is header.ensures.width header.ensures.few
    c.answer_len.result (length c.args.answer.now) c.answer_len.ensures
    c.requires.answer in
    let most = length-take-le c.answer_len.result c.args.answer.now there
    ∙ answer_size part header.result header.ensures.is header.ensures.width c.answer_len.result c.answer_len.ensures in
    asks_none part c.address-address.result.now c.write_part.new.part _ (c.args.place + 1) header.result
    (g.P.Ports.world c.args.ports.now) (g.P.Ports.world c.ask.new.ports) refl c.address-address.ensures.is c.write_part.ensures
    most header.ensures.is c.args.sum.now c.args.sum.now c.in-None.ensures.asked

pub returns-in-Some-clause-others : goal.returns-in-Some-clause-others
returns-in-Some-clause-others g c =
    subst (λ (p : ℕ). Touches p (g.P.Ports.world c.args.ports.now) (g.P.Ports.world c.ask.new.ports)) (link_there c.args.place) c.ask.ensures.others

pub returns-in-None-clause-others : goal.returns-in-None-clause-others
returns-in-None-clause-others g c =
    subst (λ (p : ℕ). Touches p (g.P.Ports.world c.args.ports.now) (g.P.Ports.world c.ask.new.ports)) (link_there c.args.place) c.ask.ensures.others
