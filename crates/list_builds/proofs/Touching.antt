-- One port is touched, and then another one.
use Rattle.std.proofs.Common.{ℕ, [], ◌∷◌, ◌∙◌}
use Rattle.port_trait.specs.World.{World}
use Rattle.port_trait.specs.Moves.{Touches}
use Rattle.port_trait.specs.Touched.{One, TouchesOnly}

-- both alone are touched
pub both_touched : (p q : ℕ) (w v u : World) → Touches p w v → Touches q v u → TouchesOnly (One p ∷ One q ∷ []) w u
both_touched p q w v u one other = record {
  others = λ port lt off on. other.others port lt on ∙ one.others port lt off;
  crowd = other.crowd ∙ one.crowd;
  started = other.started ∙ one.started;
}
