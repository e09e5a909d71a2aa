-- What happens when the next guest is let in.
use Rattle.std.specs.Prelude.{ℕ, ◌<◌, ◌≡◌, ◌≢◌, [], ◌∷◌, ◌++◌, length, drop, get_or, Some, IfSome}
use Rattle.std.specs.Option.{option_map}
use Rattle.port_trait.specs.declared.port.TheConstants.{PORT_COUNT}
use Rattle.port_trait.specs.World.{World, answered, links_now}
use Rattle.port_trait.specs.Number.{GUEST}

-- the first of the guests still to come is in: Guest hands out what it has, was given nothing, and its count
-- goes on. The one before has left, and what it was given is kept, as is what each link holds and its count. No child
-- is started
pub record Meets (old new : World) : Type 0 where
  pub first : IfSome old.crowd.guests (λ gs. (0 < length gs) × ((new.at GUEST).holds ≡ Some (get_or gs 0 [])))
  pub guests : new.crowd.guests ≡ option_map (drop 1) old.crowd.guests
  pub since : new.crowd.since ≡ option_map (λ ns. ns ++ (old.at GUEST).faults ∷ []) old.crowd.since
  pub gone : new.crowd.gone ≡ answered old
  pub links : new.crowd.links ≡ option_map (λ ls. ls ++ links_now old ∷ []) old.crowd.links
  pub accepted : (new.at GUEST).accepted ≡ option_map (λ a. []) (old.at GUEST).accepted
  pub opened : (new.at GUEST).opened ≡ (old.at GUEST).opened
  pub faults : (new.at GUEST).faults ≡ (old.at GUEST).faults
  pub others : (q : ℕ) → q < PORT_COUNT → q ≢ GUEST → new.at q ≡ old.at q
  pub started : new.started ≡ old.started
