-- Texts that are written to Output.
use Rattle.std.specs.Prelude.{ℕ, List, Result}
use Rattle.port_trait.specs.World.{World}
use Rattle.port_trait.specs.Number.{OUTPUT}
use Rattle.port_trait.specs.Written.{Written}
use Rattle.port_trait.specs.declared.port.Failed.{Failed}

-- Output took the whole text, or a proper prefix of it until a call failed
abbrev pub Writes : List ℕ → Result (Unit {0}) Failed → World → World → Type 0
Writes text result old new = Written OUTPUT text result old new
