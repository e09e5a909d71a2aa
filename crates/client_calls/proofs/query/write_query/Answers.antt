use Rattle.std.proofs.Common.{refl}
use Rattle.client_calls.specs.Query.{order}
use Rattle.client_calls.proofs.Frames.{lacks_room}
use Rattle.client_calls.proofs.query.write_query.Goals as goal

pub returns-then-out-wanted : goal.returns-then-out-wanted
returns-then-out-wanted c = (
  lacks_room (order c.args.numbers.now c.args.blocks.now c.args.coins.now c.args.index) c.in_ok-asking.asking c.args.out.now
      c.query_len-wanted.result c.in_ok-asking.ensures c.query_len-wanted.ensures.is c.if-out-wanted.true,
  refl,
)
