use Rattle.std.proofs.Common.{◌≡◌, ◌-◌, ◌≤◌, length, take}
use Rattle.shamir_share.specs.Query.{masks}
use Rattle.shamir_share.proofs.masks.rows_into.Given as goal

abbrev pub invariant-fours : goal.invariant-fours
invariant-fours l = record {
  within : l.row ≤ length l.out;
  done : take l.row l.out ≡ masks l.coins l.t l.row l.products;
}

abbrev pub decreases-fours : goal.decreases-fours
decreases-fours l = length l.out - l.row

abbrev pub invariant-loop-j : goal.invariant-loop-j
invariant-loop-j l = take l.j l.out ≡ masks l.coins l.t l.j l.products
