use Rattle.std.proofs.Common.{◌≡◌, ◌<◌, ◌≤◌, ℕ, sym, ap, subst}
use Rattle.wire_frames.specs.declared.header.QueryHeader.{QueryHeader}
use Rattle.wire_frames.specs.Limits.{IsQuery}
use Rattle.serve_core.specs.Terms.{most_blocks_for}
use Rattle.serve_core.proofs.RoomFor.{few_blocks}
use Rattle.shard_front.specs.Spread.{Spread, rows_in, shards, terms_of}
use Rattle.shard_front.specs.RelayedQuery.{RelayedQuery}
use Rattle.shard_front.specs.Parts.{header_to, part_at, part_header}
use Rattle.shard_front.proofs.Spreads.{header_range}
use Rattle.shard_front.proofs.query.RelayedQuery.header_to.Goals as goal

-- a header for the rows of a shard is that of its part
for_rows : (spread : Spread) (query : QueryHeader) (place rows : ℕ) → rows ≡ rows_in spread place
    → (let made : QueryHeader = record query { r = rows } in made) ≡ header_to spread query place
for_rows spread query place rows is = ap (λ (n : ℕ). let made : QueryHeader = record query { r = n } in made) is

pub rows_in-requires : goal.rows_in-requires
rows_in-requires c =
    subst (λ (q : RelayedQuery). c.args.place < shards q.spread) (sym c.self.view_is) c.requires

pub returns-clause-is : goal.returns-clause-is
returns-clause-is c =
    let inside = c.self.inside in
    subst (λ (q : RelayedQuery). (let made : QueryHeader = record inside.header { r = c.rows_in.result } in made) ≡ part_header (part_at q c.args.place))
    c.self.view_is (for_rows inside.spread inside.header c.args.place c.rows_in.result c.rows_in.ensures.is)

pub returns-clause-width : goal.returns-clause-width
returns-clause-width c =
    subst (λ (q : RelayedQuery). c.self.inside.header.s ≡ q.spread.width) c.self.view_is c.self.invariant.good.shape.width

pub returns-clause-few : goal.returns-clause-few
returns-clause-few c =
    let inside = c.self.inside in
    let good = c.self.invariant.good in
    subst (λ (q : RelayedQuery). inside.header.count ≤ most_blocks_for (terms_of q.spread)) c.self.view_is
    (few_blocks (terms_of inside.spread) inside.header good.range good.shape)

pub returns-clause-range : goal.returns-clause-range
returns-clause-range c =
    let inside = c.self.inside in
    let place = c.args.place in
    let there = subst (λ (q : RelayedQuery). place < shards q.spread) (sym c.self.view_is) c.requires in
    subst (λ (h : QueryHeader). IsQuery h) (sym (for_rows inside.spread inside.header place c.rows_in.result c.rows_in.ensures.is))
    (header_range inside.spread c.self.invariant.spread place there inside.header c.self.invariant.good)
