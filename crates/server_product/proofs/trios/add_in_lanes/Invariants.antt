use Rattle.std.proofs.Common.{◌-◌, ◌≤◌}
use Rattle.gf256.specs.Rows.{IsAdded}
use Rattle.server_product.specs.Trios.{trio_at}
use Rattle.server_product.proofs.trios.add_in_lanes.Given as goal

abbrev pub invariant-lanes : goal.invariant-lanes
invariant-lanes g l = record {
  begun : l.from ≤ l.at;
  within : l.at ≤ l.to;
  summed : IsAdded l.acc l.fn.acc (trio_at l.trio) l.from l.at;
}

abbrev pub decreases-lanes : goal.decreases-lanes
decreases-lanes g l = l.to - l.at
