use Rattle.std.proofs.Common.{◌≡◌, ◌≤◌, ap, subst}
use Rattle.serve_core.specs.Terms.{most_blocks_for}
use Rattle.serve_core.proofs.RoomFor.{few_blocks}
use Rattle.shard_front.specs.Spread.{terms_of}
use Rattle.shard_front.specs.RelayedQuery.{RelayedQuery}
use Rattle.shard_front.proofs.query.RelayedQuery.header.Goals as goal

pub returns-clause-is : goal.returns-clause-is
returns-clause-is c = ap (λ (q : RelayedQuery). q.header) c.self.view_is

pub returns-clause-width : goal.returns-clause-width
returns-clause-width c =
    subst (λ (q : RelayedQuery). c.self.inside.header.s ≡ q.spread.width) c.self.view_is c.self.invariant.good.shape.width

pub returns-clause-few : goal.returns-clause-few
returns-clause-few c =
    let inside = c.self.inside in
    let good = c.self.invariant.good in
    subst (λ (q : RelayedQuery). inside.header.count ≤ most_blocks_for (terms_of q.spread)) c.self.view_is
    (few_blocks (terms_of inside.spread) inside.header good.range good.shape)

pub returns-clause-range : goal.returns-clause-range
returns-clause-range c = c.self.invariant.good.range
