use Rattle.std.proofs.Common.{slice_index, arith}
use Rattle.gf256.proofs.Added.{added-none, added-on}
use Rattle.gf256.proofs.rows.add_in_lanes.Goals as goal

pub lanes-init : goal.lanes-init
lanes-init c = record {
  within = omega arith;
  added = added-none c.args.acc.now (slice_index c.args.row.now) 0;
}

pub lanes-preserved : goal.lanes-preserved
lanes-preserved c = record {
  within = omega arith;
  added =
      added-on c.add_lanes.new.acc c.lanes.acc c.args.acc.now (slice_index c.args.row.now) 0 c.lanes.at _ (omega arith) (omega arith)
      c.lanes.invariant.added c.add_lanes.ensures;
}

pub returns-clause-added : goal.returns-clause-added
returns-clause-added c =
    added-on c.add_lanes-2.new.acc c.lanes.acc c.args.acc.now (slice_index c.args.row.now) 0 c.lanes.at _ (omega arith) (omega arith)
    c.lanes.invariant.added c.add_lanes-2.ensures
