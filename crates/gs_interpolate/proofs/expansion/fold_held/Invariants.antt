use Rattle.std.proofs.Common.{◌≡◌, ℕ, ◌%◌, ◌<◌, ◌≤◌, length, get_or, drop}
use Rattle.gs_interpolate.specs.Expansion.{folded}
use Rattle.gs_interpolate.proofs.expansion.fold_held.Given as goal

abbrev pub invariant-pieces : goal.invariant-pieces
invariant-pieces g l = record {
  within : l.at ≤ length l.row;
  whole : l.at % g.row.N ≡ 0;
  size : length l.sum ≡ g.row.N;
  folded : (k : ℕ) → k < g.row.N → get_or l.sum k 0 ≡ folded g.row.N l.products (drop l.at l.row) k;
}

abbrev pub decreases-pieces : goal.decreases-pieces
decreases-pieces g l = l.at
