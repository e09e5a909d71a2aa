use Rattle.std.proofs.Common.{◌<◌, sym, subst, arith}
use Rattle.shard_front.specs.Spread.{shards}
use Rattle.shard_front.specs.RelayedQuery.{RelayedQuery}
use Rattle.shard_front.proofs.query.RelayedQuery.address.Goals as goal

pub bounds-self-inside-from : goal.bounds-self-inside-from
bounds-self-inside-from c =
    let there = subst (λ (q : RelayedQuery). c.args.place < shards q.spread) (sym c.self.view_is) c.requires in
    omega (arith, there, c.self.invariant.addresses)

pub returns-clause-few : goal.returns-clause-few
returns-clause-few c =
    let there = subst (λ (q : RelayedQuery). c.args.place < shards q.spread) (sym c.self.view_is) c.requires in
    omega (arith, there, c.self.invariant.spread.few)
