use Rattle.std.proofs.Common.{◌≡◌, ◌-◌, ◌≤◌, length, take}
use Rattle.share_bytes.proofs.Shares.{first_shares}
use Rattle.share_bytes.proofs.share.share_into.Given as goal

abbrev pub invariant-pieces : goal.invariant-pieces
invariant-pieces l = record {
  within : l.at ≤ length l.out;
  done : take l.at l.out ≡ first_shares l.bytes l.coins l.tau l.at l.index;
}

abbrev pub decreases-pieces : goal.decreases-pieces
decreases-pieces l = length l.out - l.at
