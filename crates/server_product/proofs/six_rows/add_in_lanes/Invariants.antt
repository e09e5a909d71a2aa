use Rattle.std.proofs.Common.{◌-◌, ◌≤◌, length}
use Rattle.server_product.specs.SixRows.{six_at}
use Rattle.gf256.specs.Rows.{IsAdded}
use Rattle.server_product.proofs.six_rows.add_in_lanes.Given as goal

abbrev pub invariant-lanes : goal.invariant-lanes
invariant-lanes l = record {
  within : l.at ≤ length l.acc;
  summed : IsAdded l.acc l.initial.acc (six_at l.six) 0 l.at;
}

abbrev pub decreases-lanes : goal.decreases-lanes
decreases-lanes l = length l.initial.acc - l.at
