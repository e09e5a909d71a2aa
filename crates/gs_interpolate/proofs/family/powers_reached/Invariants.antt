use Rattle.std.proofs.Common.{◌≡◌, ℕ, ◌+◌, ◌*◌, ◌<◌, ◌≤◌, get_or}
use Rattle.gs_interpolate.proofs.family.powers_reached.Given as goal

abbrev pub invariant-zeros : goal.invariant-zeros
invariant-zeros l = record {
  few : l.powers ≤ l.count;
  zero : (i : ℕ) → l.powers ≤ i → i < l.count → get_or l.row (i * l.lanes + l.p) 0 ≡ 0;
}

abbrev pub decreases-zeros : goal.decreases-zeros
decreases-zeros l = l.powers
