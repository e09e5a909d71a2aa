use Rattle.std.proofs.Common.{◌-◌, ◌≤◌}
use Rattle.server_product.specs.Trios.{trio_at}
use Rattle.server_product.proofs.TrioSums.{IsLagged}
use Rattle.server_product.proofs.trios.add_two_trios.Given as goal

abbrev pub invariant-lanes : goal.invariant-lanes
invariant-lanes l = record {
  begun : l.lag ≤ l.at;
  within : l.at ≤ l.len;
  lagged :
      IsLagged l.acc l.fn.acc (trio_at l.first) (trio_at l.second) l.at (l.at - l.lag);
}

abbrev pub decreases-lanes : goal.decreases-lanes
decreases-lanes l = l.len - l.at
