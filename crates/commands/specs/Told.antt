-- What a run may say of any port.
use Rattle.std.specs.Prelude.{ℕ, ◌+◌, ◌<◌, List, [], ◌∷◌}
use Rattle.port_trait.specs.World.{World}
use Rattle.port_trait.specs.Number.{child, share_file}
use Rattle.port_trait.specs.Moves.{Rose, RoseOnce}

-- a call on the port failed in this run, or its count stands at its limit
abbrev pub DidRise : ℕ → World → World → Type 0
DidRise p old new = Rose (old.at p).faults (new.at p).faults

-- one call on the port failed in this run and no second one, or its count stands at its limit
abbrev pub DidRiseOnce : ℕ → World → World → Type 0
DidRiseOnce p old new = RoseOnce (old.at p).faults (new.at p).faults

-- no call on one of these ports failed in this run
abbrev pub NoneRose : List ℕ → World → World → Type 0
NoneRose [] old new = Unit {0}
NoneRose (p ∷ ports) old new = (DidRise p old new → ⊥) × NoneRose ports old new

-- none of n children failed to start
abbrev pub NoChildRose : ℕ → World → World → Type 0
NoChildRose n old new = (i : ℕ) → i < n → DidRise (child 1 + i) old new → ⊥

-- no call on the files of n shares failed
abbrev pub NoShareRose : ℕ → World → World → Type 0
NoShareRose n old new = (i : ℕ) → i < n → DidRise (share_file 1 + i) old new → ⊥
