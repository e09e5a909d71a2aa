use Rattle.std.proofs.Common.{◌≡◌, get_or, arith}
use Rattle.column_runs.specs.Tile.{given}
use Rattle.column_runs.proofs.SameColumns.{has-lanes, each-on}
use Rattle.column_runs.proofs.agreement.agreeing_lanes.Goals as goal

pub lanes-preserved : goal.lanes-preserved
lanes-preserved g c =
    let at = c.lanes.at in
    let n = g.row.N in
    let row = c.args.row.now in
    let wanted = given c.args.first.now c.args.differences.now c.args.factors.now in
    record {
      within = omega (arith, c.lanes-test.true, c.requires.width, c.lanes.invariant.within);
      same =
          each-on (λ k. get_or row k 0 ≡ wanted k) at n at (omega arith) c.lanes.invariant.same
          (has-lanes n row c.bytes_at.result wanted at (c.are_lanes.ensures c.if-are_lanes.true) c.bytes_at.ensures);
    }
