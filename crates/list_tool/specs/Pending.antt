-- A text that is given to Output in pieces, of which the last bytes may be pending.
use Rattle.std.specs.Prelude.{◌≡◌, ℕ, List, ◌++◌, Result, Ok, Err}
use Rattle.port_trait.specs.World.{World}
use Rattle.port_trait.specs.Number.{OUTPUT}
use Rattle.port_trait.specs.Moves.{gave}
use Rattle.port_trait.specs.Whole.{FailsWithin}
use Rattle.port_trait.specs.declared.port.Failed.{Failed}

-- Output took the first bytes of the text, and the others are pending
pub record HasPut (text pending : List ℕ) (old new : World) : Type 0 where
  pub given : List ℕ
  pub cell : new.at OUTPUT ≡ gave given (old.at OUTPUT)
  pub are : given ++ pending ≡ text

-- what putting a text behind what is pending answers: what was pending and the text are given or pending, or a proper
-- prefix of them was given until a call failed
abbrev pub Puts : List ℕ → Result (Unit {0}) Failed → List ℕ → List ℕ → World → World → Type 0
Puts text (Ok _) before after old new = HasPut (before ++ text) after old new
Puts text (Err _) before after old new = FailsWithin OUTPUT (before ++ text) old new
