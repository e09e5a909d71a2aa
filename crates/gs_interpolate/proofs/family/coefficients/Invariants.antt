use Rattle.std.proofs.Common.{◌≡◌, ℕ, ◌+◌, ◌*◌, ◌<◌, length, get_or}
use Rattle.gs_interpolate.proofs.family.coefficients.Given as goal

abbrev pub invariant-loop-i : goal.invariant-loop-i
invariant-loop-i l = record {
  size : length l.made.items ≡ l.i;
  each : (k : ℕ) → k < l.i → get_or l.made.items k 0 ≡ get_or l.row (k * l.lanes + l.g) 0;
}
