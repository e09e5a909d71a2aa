-- Counts that rose.
use Rattle.std.proofs.Common.{ℕ, ◌≡◌, ◌+◌, arith}
use Rattle.port_trait.specs.Moves.{Rose, RoseOnce, RoseAtMost}

-- a count that rose by one rose
pub once_rose : (before now : ℕ) → RoseOnce before now → Rose before now
once_rose before now once = omega (arith, once)

-- a count that rose by no more than so many, and then by one, rose by no more than one more
pub at_most_once : (most before mid now : ℕ) → RoseAtMost most before mid → RoseOnce mid now → RoseAtMost (most + 1) before now
at_most_once most before mid now few once = omega (arith, few, once)

-- as it did if it then stayed
pub at_most_still : (most before mid now : ℕ) → RoseAtMost most before mid → now ≡ mid → RoseAtMost (most + 1) before now
at_most_still most before mid now few still = omega (arith, few, still)
