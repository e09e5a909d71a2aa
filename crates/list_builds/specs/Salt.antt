-- The salt, which is taken from Coins.
use Rattle.std.specs.Prelude.{◌≡◌, ℕ, List, length, take, IfSome, Result, Ok, Err}
use Rattle.port_trait.specs.World.{Cell, World}
use Rattle.port_trait.specs.Number.{COINS}
use Rattle.port_trait.specs.Moves.{named, took}
use Rattle.port_trait.specs.Files.{Unread}
use Rattle.port_trait.specs.Tossed.{RunsOut}
use Rattle.list_builds.specs.declared.TheConstants.{SALT_SIZE}
use Rattle.list_builds.specs.declared.fault.BuildFault.{BuildFault}
use Rattle.list_builds.specs.declared.fault.BuildFault.TheVariants.{CoinsFault, CoinsEnded}

-- Coins was opened by this name, and its first bytes are the salt
pub record IsSalt (name salt : List ℕ) (old new : Cell) : Type 0 where
  pub size : length salt ≡ SALT_SIZE
  pub cell : new ≡ took SALT_SIZE (named name old)
  pub told : IfSome old.holds (λ held. salt ≡ take SALT_SIZE held)

abbrev pub Salted : List ℕ → List ℕ → World → World → Type 0
Salted name salt old new = IsSalt name salt (old.at COINS) (new.at COINS)

-- it was opened by this name, and had only so many bytes
abbrev pub LacksSalt : List ℕ → ℕ → World → World → Type 0
LacksSalt name taken old new = RunsOut SALT_SIZE taken (named name (old.at COINS)) (new.at COINS)

-- it can't be opened by this name, or read as far
abbrev pub Unsalted : List ℕ → World → World → Type 0
Unsalted name old new = Unread COINS name SALT_SIZE old new

-- what taking the salt answers
abbrev pub TakesSalt : List ℕ → Result (List ℕ) BuildFault → World → World → Type 0
TakesSalt name (Ok salt) old new = Salted name salt old new
TakesSalt name (Err CoinsFault) old new = Unsalted name old new
TakesSalt name (Err (CoinsEnded taken)) old new = LacksSalt name taken old new
TakesSalt name (Err fault) old new = ⊥
