-- What is told where the counts alone are told.
use Rattle.std.specs.Prelude.{ℕ, List, slice_index, None}
use Rattle.port_trait.specs.World.{Crowd, World}

-- nothing is told of guests
abbrev pub untold_crowd : Crowd
untold_crowd = record { guests = None; since = None; gone = None; links = None }

-- no name, no byte and no start is told
abbrev pub counts_alone : List ℕ → World
counts_alone counts = record {
  at = λ p. record { opened = None; holds = None; accepted = None; faults = slice_index counts p };
  crowd = untold_crowd;
  started = None;
}
