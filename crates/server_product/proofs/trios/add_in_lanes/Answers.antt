use Rattle.std.proofs.Common.{◌+◌, arith}
use Rattle.server_product.specs.Trios.{trio_at}
use Rattle.gf256.proofs.Added.{added-none, added-on}
use Rattle.server_product.proofs.trios.add_in_lanes.Goals as goal

pub lanes-init : goal.lanes-init
lanes-init g c = record {
  begun = omega arith;
  within = c.requires.order;
  summed = added-none c.args.acc.now (trio_at c.args.trio) c.args.from;
}

pub lanes-preserved : goal.lanes-preserved
lanes-preserved g c = record {
  begun = omega (arith, c.lanes.invariant.begun);
  within = omega (arith, c.lanes.invariant.within);
  summed =
      added-on c.add_lanes.new.acc c.lanes.acc c.args.acc.now (trio_at c.args.trio)
      c.args.from c.lanes.at (c.lanes.at + g.row.N) c.lanes.invariant.begun (omega arith) c.lanes.invariant.summed c.add_lanes.ensures;
}
