-- What a growing list has come to hold.
use Rattle.std.specs.Prelude.{◌↔◌, ◌⊎◌, List, Contains}

-- its elements are the old ones and those of which P holds
abbrev pub Gains : {X : Type 0} → (X → Type 0) → List X → List X → Type 0
Gains P old new = (x : _) → Contains new x ↔ (Contains old x ⊎ P x)
