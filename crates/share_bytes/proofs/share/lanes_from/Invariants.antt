use Rattle.std.proofs.Common.{◌≡◌, ◌-◌, ◌≤◌, length, take}
use Rattle.share_bytes.proofs.Shares.{first_shares}
use Rattle.share_bytes.proofs.share.lanes_from.Given as goal

abbrev pub invariant-lanes : goal.invariant-lanes
invariant-lanes g l = record {
  within : l.at ≤ length l.out;
  done : take l.at l.out ≡ first_shares l.bytes l.coins l.tau l.at l.products;
}

abbrev pub decreases-lanes : goal.decreases-lanes
decreases-lanes g l = length l.out - l.at
