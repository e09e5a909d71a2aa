use Rattle.std.proofs.Common.{◌≡◌, ◌-◌, length, get_or, arith}
use Rattle.column_runs.specs.Tile.{given}
use Rattle.column_runs.proofs.SameColumns.{each-on}
use Rattle.column_runs.proofs.agreement.agreed_length.Goals as goal

pub returns-then-agreed-lt16-clause-same : goal.returns-then-agreed-lt16-clause-same
returns-then-agreed-lt16-clause-same c =
    let wanted = given c.args.first.now c.args.differences.now c.args.factors.now in
    each-on (λ k. get_or c.args.row.now k 0 ≡ wanted k) c.lanes.at c.agreed_lanes-agreed.result c.lanes.at (omega arith)
    c.lanes.invariant.same c.agreed_lanes-agreed.ensures.same

pub lanes-preserved : goal.lanes-preserved
lanes-preserved c =
    let wanted = given c.args.first.now c.args.differences.now c.args.factors.now in
    record {
      within = omega (arith, c.agreed_lanes-agreed.ensures.within, c.lanes-test.true, c.requires.width, c.lanes.invariant.within);
      same =
          each-on (λ k. get_or c.args.row.now k 0 ≡ wanted k) c.lanes.at c.agreed_lanes-agreed.result c.lanes.at (omega arith)
          c.lanes.invariant.same c.agreed_lanes-agreed.ensures.same;
    }

pub returns-clause-same : goal.returns-clause-same
returns-clause-same c =
    let wanted = given c.args.first.now c.args.differences.now c.args.factors.now in
    each-on (λ k. get_or c.args.row.now k 0 ≡ wanted k) (length c.args.row.now - 16) c.agreed_lanes.result c.lanes.at (omega (arith, c.lanes-test.false))
    c.lanes.invariant.same c.agreed_lanes.ensures.same
