use Rattle.shard_front.specs.Room.{FitsShard}
use Rattle.shard_front.specs.Asked.{SumsFirst}
use Rattle.shard_front.proofs.relay.ask_shards.Given as goal

-- the shards so far answered
abbrev pub invariant-places : goal.invariant-places
invariant-places g l = record {
  sums : SumsFirst l.relay l.place l.sum (g.P.Ports.world l.initial.ports) (g.P.Ports.world l.ports);
  fits : FitsShard l.relay.spread l.room;
}
