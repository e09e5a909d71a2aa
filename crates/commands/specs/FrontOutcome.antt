-- What `front` does to the outside, by the status that it ends with.
use Rattle.std.specs.Prelude.{◌≡◌, ◌⊎◌, ℕ, ◌<◌, List, [], ◌∷◌}
use Rattle.port_trait.specs.World.{World}
use Rattle.port_trait.specs.Number.{OUTPUT, DOOR, GUEST, link}
use Rattle.port_trait.specs.Moves.{Fails, Touches, gave, named, counted}
use Rattle.port_trait.specs.Touched.{One, From, Crowd, TouchesOnly}
use Rattle.shard_front.specs.Spread.{shards}
use Rattle.commands.specs.Told.{DidRiseOnce, NoneRose}
use Rattle.commands.specs.ServeSteps.{ready, IsMute, IsShut, TouchesDoor}
use Rattle.commands.specs.FrontOrder.{FrontOrder}
use Rattle.commands.specs.FrontAnswers.{FrontsAll}
use Rattle.commands.specs.FrontSteps.{FrontsInTurn}
use Rattle.commands.specs.declared.status.Status.{Status}
use Rattle.commands.specs.declared.status.Status.TheVariants.{One, WriteFault, DoorFault, Memory}

-- guests could come in and that is written whole, and then all of them were met, in turn: each link that was asked was given
-- the part of each query for its shard, and so much was given to each guest. Until the first came in, Output and Door alone
-- were touched
pub record FrontedAll (o : FrontOrder) (old new : World) : Type 0 where
  pub door : new.at DOOR ≡ named o.listen (old.at DOOR)
  pub written : new.at OUTPUT ≡ gave ready (old.at OUTPUT)
  pub listening : World
  pub nobody : TouchesDoor old listening
  pub turns : FrontsInTurn o.spread o.addresses o.conns listening new
  pub guests : FrontsAll o.spread o.conns old new

-- the same, but when some guests were met no further one came in
pub record FrontedSome (o : FrontOrder) (old new : World) : Type 0 where
  pub door : new.at DOOR ≡ counted (new.at DOOR).faults (named o.listen (old.at DOOR))
  pub rose : DidRiseOnce DOOR old new
  pub written : new.at OUTPUT ≡ gave ready (old.at OUTPUT)
  pub listening : World
  pub nobody : TouchesDoor old listening
  pub served : ℕ
  pub fewer : served < o.conns
  pub last : World
  pub turns : FrontsInTurn o.spread o.addresses served listening last
  pub none : Fails DOOR last new
  pub others : Touches DOOR last new
  pub guests : FrontsAll o.spread served old new

-- what `front` did, by its status: where Door can't be opened, or that can't be written, nobody came in and no link was touched
abbrev pub FrontEnds : FrontOrder → Status → World → World → Type 0
FrontEnds o One old new = FrontedAll o old new
FrontEnds o WriteFault old new = IsMute o.listen old new × TouchesDoor old new
FrontEnds o DoorFault old new = (IsShut old new × TouchesDoor old new) ⊎ FrontedSome o old new
FrontEnds o Memory old new = new ≡ old
FrontEnds o status old new = ⊥

-- Output, Door, Guest and the links to n shards alone are touched, and guests come and go
abbrev pub TouchesFront : ℕ → World → World → Type 0
TouchesFront n old new = TouchesOnly (One OUTPUT ∷ One DOOR ∷ One GUEST ∷ From (link 1) n ∷ Crowd ∷ []) old new

-- what `front` did, and that it did no more; Guest is opened by no name
pub record FrontOutcome (o : FrontOrder) (status : Status) (old new : World) : Type 0 where
  pub ends : FrontEnds o status old new
  pub others : TouchesFront (shards o.spread) old new
  pub unnamed : (new.at GUEST).opened ≡ (old.at GUEST).opened

-- the ports that `front` uses but that of its guests and the links to its shards
abbrev pub own_ports : List ℕ
own_ports = OUTPUT ∷ DOOR ∷ []

-- what `front` promises where no call failed but on guests and on links, but that memory may run out: each guest was met
pub record FrontPromise (o : FrontOrder) (status : Status) (old new : World) : Type 0 where
  pub served : NoneRose own_ports old new → ((status ≡ One) × FrontedAll o old new) ⊎ (status ≡ Memory)
