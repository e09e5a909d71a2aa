-- What happens when a child is started.
use Rattle.std.specs.Prelude.{ℕ, ◌<◌, ◌≡◌, List, [], ◌∷◌, ◌++◌}
use Rattle.std.specs.Option.{option_map}
use Rattle.port_trait.specs.declared.port.TheConstants.{PORT_COUNT}
use Rattle.port_trait.specs.World.{World}

-- a child was started with these words, the last that is told of, and nothing else changed
pub record Starts (words : List (List ℕ)) (old new : World) : Type 0 where
  pub started : new.started ≡ option_map (λ starts. starts ++ words ∷ []) old.started
  pub ports : (q : ℕ) → q < PORT_COUNT → new.at q ≡ old.at q
  pub crowd : new.crowd ≡ old.crowd
