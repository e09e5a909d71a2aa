-- Coins that are taken from a port.
use Rattle.std.specs.Prelude.{◌≡◌, ℕ, ◌<◌, List, length, take, All, IfSome}
use Rattle.port_trait.specs.World.{Cell}
use Rattle.port_trait.specs.Moves.{took}

-- so many coins were taken: the first that the port held
pub record Tossed (need : ℕ) (coins : List ℕ) (old new : Cell) : Type 0 where
  pub size : length coins ≡ need
  pub bytes : All (λ b. b < 256) coins
  pub cell : new ≡ took need old
  pub told : IfSome old.holds (λ held. coins ≡ take need held)

-- the port ended after so many bytes, fewer than are needed
pub record RunsOut (need taken : ℕ) (old new : Cell) : Type 0 where
  pub fewer : taken < need
  pub cell : new ≡ took taken old
  pub all : IfSome old.holds (λ held. length held ≡ taken)
