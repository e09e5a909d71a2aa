use Rattle.std.proofs.Common.{◌≡◌, ◌∙◌, ◌*◌, ◌<◌, length, sym, ap, subst}
use Rattle.wire_frames.specs.declared.header.QueryHeader.{QueryHeader}
use Rattle.wire_frames.specs.Header.{query_header}
use Rattle.shard_front.specs.Spread.{rows_in, shards}
use Rattle.shard_front.specs.RelayedQuery.{RelayedQuery}
use Rattle.shard_front.specs.Parts.{part_len, slices_for}
use Rattle.shard_front.proofs.Parting.{not_short, part_is, rest_size}
use Rattle.shard_front.proofs.query.RelayedQuery.write_part.Goals as goal

pub returns : goal.returns
returns c =
    let relay = c.args.self.now in
    let place = c.args.place in
    let out = c.write_slices.new.out in
    let slices = subst (λ (q : RelayedQuery). out ≡ slices_for q.spread place q.header.count q.vectors) c.self.view_is c.write_slices.ensures in
    part_is relay.spread relay.header relay.vectors place c.write_query_header.new.out out
    (c.write_query_header.ensures ∙ ap (λ (h : QueryHeader). query_header h) c.header_to.ensures.is) slices

pub write_slices-requires-clause-there : goal.write_slices-requires-clause-there
write_slices-requires-clause-there c =
    subst (λ (q : RelayedQuery). c.args.place < shards q.spread) (sym c.self.view_is) c.requires.there

pub write_slices-requires-clause-vectors : goal.write_slices-requires-clause-vectors
write_slices-requires-clause-vectors c = c.self.invariant.vectors

pub write_slices-requires-clause-room : goal.write_slices-requires-clause-room
write_slices-requires-clause-room c =
    let inside = c.self.inside in
    let place = c.args.place in
    let room = subst (λ (q : RelayedQuery). length c.args.part.now ≡ part_len q.spread q.header.count place) (sym c.self.view_is) c.requires.room in
    rest_size c.args.part.now c.in-Some.slices.now (inside.header.count * rows_in inside.spread place) c.in-Some.ensures.cases.1 room

pub unreachable-requires : goal.unreachable-requires
unreachable-requires c =
    let relay = c.args.self.now in
    not_short (relay.header.count * rows_in relay.spread c.args.place) (length c.args.part.now)
    c.in_default.ensures.cases c.requires.room
