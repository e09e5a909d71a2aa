use Rattle.std.proofs.Common.{◌≡◌, ◌-◌, ◌≤◌, length, take}
use Rattle.shamir_share.specs.Query.{masks}
use Rattle.shamir_share.proofs.lanes.lanes_from.Given as goal

abbrev pub invariant-lanes : goal.invariant-lanes
invariant-lanes g l = record {
  within : l.row ≤ length l.out;
  done : take l.row l.out ≡ masks l.coins l.t l.row l.products;
}

abbrev pub decreases-lanes : goal.decreases-lanes
decreases-lanes g l = length l.out - l.row
