-- What a loop over the ports base, base + 1, .. does.
use Rattle.std.specs.Prelude.{ℕ, ◌+◌, ◌<◌, [], ◌∷◌}
use Rattle.port_trait.specs.World.{Cell, World}
use Rattle.port_trait.specs.Touched.{From, TouchesOnly}

-- each of the n ports from base on went from its old cell to its new one by R, counted from 0
pub record Each (R : ℕ → Cell → Cell → Type 0) (base n : ℕ) (old new : World) : Type 0 where
  pub each : (i : ℕ) → i < n → R i (old.at (base + i)) (new.at (base + i))

-- nothing but those n ports is touched
abbrev pub TouchesRange : ℕ → ℕ → World → World → Type 0
TouchesRange base n old new = TouchesOnly (From base n ∷ []) old new
