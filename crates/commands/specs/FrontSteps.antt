-- The steps of `front`, and what each does to the outside.
use Rattle.std.specs.Prelude.{◌≡◌, ℕ, ◌+◌, ◌<◌, List, [], ◌∷◌}
use Rattle.port_trait.specs.World.{World}
use Rattle.port_trait.specs.Number.{DOOR, GUEST, link}
use Rattle.port_trait.specs.Guests.{Meets}
use Rattle.port_trait.specs.Moves.{Fails, RoseAtMost, Touches, counted}
use Rattle.port_trait.specs.Touched.{One, From, Crowd, TouchesOnly}
use Rattle.shard_front.specs.declared.relayed.Relayed.{Relayed}
use Rattle.shard_front.specs.Spread.{Spread, shards}
use Rattle.shard_front.specs.Fronted.{Fronts, TouchesFirst}
use Rattle.shard_front.specs.Relay.{FrontsTold}
use Rattle.commands.specs.Told.{DidRiseOnce}
use Rattle.commands.specs.FrontAnswers.{FrontsAll}

-- the next guest came in, and was met by asking the shards: each link that was asked was given the part of the query for its
-- shard, or a prefix of it where its count rose; and the guest its frame, by what it and the links held as it came in and by
-- which counts rose since. Nothing but Guest and the links was touched
pub record FrontsNext (spread : Spread) (addresses : List (List ℕ)) (met : Relayed) (old new : World) : Type 0 where
  pub mid : World
  pub meets : Meets old mid
  pub fronts : Fronts spread addresses met mid new
  pub told : FrontsTold spread met mid new
  pub others : TouchesFirst (shards spread) mid new

-- n guests came in, and each was met, one after the other: the worlds between them, and what each was met with. No more
-- calls failed on Guest, nor on the link to any one shard, than guests came in
pub record FrontsInTurn (spread : Spread) (addresses : List (List ℕ)) (n : ℕ) (old new : World) : Type 0 where
  pub worlds : ℕ → World
  pub mets : ℕ → Relayed
  pub first : worlds 0 ≡ old
  pub last : worlds n ≡ new
  pub each : (i : ℕ) → i < n → FrontsNext spread addresses (mets i) (worlds i) (worlds (i + 1))
  pub guest_faults : RoseAtMost n (old.at GUEST).faults (new.at GUEST).faults
  pub link_faults : (i : ℕ) → i < shards spread → RoseAtMost n (old.at (link 1 + i)).faults (new.at (link 1 + i)).faults

-- when some of n guests were met, no further one came in
pub record FrontRunsDry (spread : Spread) (addresses : List (List ℕ)) (n : ℕ) (old new : World) : Type 0 where
  pub served : ℕ
  pub fewer : served < n
  pub guests : FrontsAll spread served old new
  pub last : World
  pub turns : FrontsInTurn spread addresses served old last
  pub none : Fails DOOR last new
  pub others : Touches DOOR last new
  pub door : new.at DOOR ≡ counted (new.at DOOR).faults (old.at DOOR)
  pub rose : DidRiseOnce DOOR old new

-- Door, Guest and n links alone are touched, and guests come and go
abbrev pub TouchesRelaying : ℕ → World → World → Type 0
TouchesRelaying n old new = TouchesOnly (One DOOR ∷ One GUEST ∷ From (link 1) n ∷ Crowd ∷ []) old new
