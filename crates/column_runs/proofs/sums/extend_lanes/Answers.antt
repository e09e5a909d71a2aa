use Rattle.std.proofs.Common.{arith}
use Rattle.column_runs.specs.Tile.{given}
use Rattle.column_runs.proofs.MadeSums.{made-put}
use Rattle.column_runs.proofs.sums.extend_lanes.Goals as goal

pub lanes-preserved : goal.lanes-preserved
lanes-preserved g c =
    let at = c.lanes.at in
    let size = c.lanes.auto.sums in
    let room = c.lanes-test.true in
    record {
      within = omega (arith, room, size, c.requires.same, c.lanes.invariant.within);
      made =
          made-put c.lanes.sums c.bytes_at.result (given c.args.first.now c.args.differences.now c.args.factors.now) at at
          (omega arith) (omega (arith, room, size, c.requires.same, c.lanes.invariant.within)) c.bytes_at.ensures c.lanes.invariant.made;
    }
