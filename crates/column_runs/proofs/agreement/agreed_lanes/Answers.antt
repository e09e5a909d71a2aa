use Rattle.column_runs.specs.Tile.{given}
use Rattle.column_runs.proofs.SameColumns.{has-lanes}
use Rattle.column_runs.proofs.agreement.agreed_lanes.Goals as goal

pub returns-then-are_lanes-clause-same : goal.returns-then-are_lanes-clause-same
returns-then-are_lanes-clause-same c = λ k l.
    has-lanes 16 c.args.row.now c.bytes_at-sums.result (given c.args.first.now c.args.differences.now c.args.factors.now) c.args.at
    (c.are_lanes.ensures c.if-are_lanes.true) c.bytes_at-sums.ensures k l
