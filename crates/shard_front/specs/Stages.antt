-- The steps of a front: the shards are asked, the frame is given.
use Rattle.std.specs.Prelude.{◌≡◌, ◌⊎◌, ℕ, List}
use Rattle.port_trait.specs.World.{World}
use Rattle.port_trait.specs.Number.{GUEST, link}
use Rattle.port_trait.specs.Moves.{Touches, gave}
use Rattle.port_trait.specs.Each.{TouchesRange}
use Rattle.port_trait.specs.Whole.{FailsWithin}
use Rattle.shard_front.specs.declared.relayed.Relayed.{Relayed}
use Rattle.shard_front.specs.declared.relayed.Relayed.TheVariants.{GuestFault}
use Rattle.shard_front.specs.RelayedQuery.{RelayedQuery}
use Rattle.shard_front.specs.Asked.{Asks, asked_for}

-- the guest was given the frame, and is met with `met`; or a call failed when it had taken a proper
-- prefix of the frame
abbrev pub Gives : Relayed → List ℕ → Relayed → World → World → Type 0
Gives met frame result old new = ((result ≡ met) × (new.at GUEST ≡ gave frame (old.at GUEST)))
    ⊎ ((result ≡ GuestFault) × FailsWithin GUEST frame old new)

-- the shards were asked for a query, and what they make of it was given to the guest
pub record RelaysQuery (relay : RelayedQuery) (result : Relayed) (old new : World) : Type 0 where
  pub met : Relayed
  pub frame : List ℕ
  pub mid : World
  pub asked : Asks relay met frame old mid
  pub links : TouchesRange (link 1) (asked_for relay.spread met) old mid
  pub gives : Gives met frame result mid new
  pub others : Touches GUEST mid new
