use Rattle.std.proofs.Common.{◌≡◌, ◌-◌, ◌≤◌, length, map, take}
use Rattle.gf256.specs.Field.{◌⊗◌}
use Rattle.shamir_share.proofs.products.ProductTable.times_in_lanes.Given as goal

abbrev pub invariant-lanes : goal.invariant-lanes
invariant-lanes g l = record {
  within : l.at ≤ length l.into;
  done : take l.at l.into ≡ map (◌⊗◌ l.self) (take l.at l.from);
}

abbrev pub decreases-lanes : goal.decreases-lanes
decreases-lanes g l = length l.into - l.at
