-- A text that is given to a port in pieces.
use Rattle.std.specs.Prelude.{◌≡◌, ℕ, List, Result, Ok, Err}
use Rattle.port_trait.specs.World.{World}
use Rattle.port_trait.specs.Moves.{gave}
use Rattle.port_trait.specs.Whole.{FailsWithin}
use Rattle.port_trait.specs.declared.port.Failed.{Failed}

-- the port took the whole text, or a proper prefix of it until a call failed
abbrev pub Written : ℕ → List ℕ → Result (Unit {0}) Failed → World → World → Type 0
Written p text (Ok _) old new = new.at p ≡ gave text (old.at p)
Written p text (Err _) old new = FailsWithin p text old new
