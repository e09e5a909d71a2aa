use Rattle.std.proofs.Common.{◌≡◌, ℕ, ◌<◌, ◌≤◌, get_or}
use Rattle.gf256.specs.Field.{◌⊗◌}
use Rattle.privacy_law.proofs.shamir.multiply.Given as goal

abbrev pub invariant-loop-i : goal.invariant-loop-i
invariant-loop-i l = record {
  below : (k : ℕ) → k < l.i → get_or l.p k 0 ≡ l.factor ⊗ get_or l.initial.p k 0;
  above : (k : ℕ) → l.i ≤ k → get_or l.p k 0 ≡ get_or l.initial.p k 0;
}
