-- What `serve` does to the outside, by the status that it ends with.
use Rattle.std.specs.Prelude.{◌≡◌, ◌⊎◌, ℕ, ◌<◌, ◌≤◌, List, [], ◌∷◌, length, Some}
use Rattle.port_trait.specs.World.{World}
use Rattle.port_trait.specs.Number.{OUTPUT, DATABASE, DOOR, GUEST}
use Rattle.port_trait.specs.Moves.{Fails, Touches, gave, named, counted}
use Rattle.port_trait.specs.Whole.{FailsWithin}
use Rattle.port_trait.specs.Touched.{One, Crowd, TouchesOnly}
use Rattle.port_trait.specs.Files.{Unread}
use Rattle.block_matrix.specs.Database.{Database, limit}
use Rattle.block_matrix.specs.Loading.{asked_for}
use Rattle.commands.specs.Told.{DidRiseOnce, NoneRose}
use Rattle.commands.specs.ServeOrder.{ServeOrder, service_of}
use Rattle.commands.specs.ServeSteps.{ready, Loaded, HasNoBytes, HasOpenDesk, HasTooMany, HasBegun, AttendsInTurn, ServesGuests, RepliesUnlessCut}
use Rattle.serve_core.specs.Service.{Service}
use Rattle.commands.specs.declared.status.Status.{Status}
use Rattle.commands.specs.declared.status.Status.TheVariants.{One, ReadFault, WriteFault, BadInput, DoorFault, Memory}
use Rattle.commands.specs.declared.status.Bad.TheVariants.{EmptyFile, TooBig}

-- nobody came in
pub record Nobody (old new : World) : Type 0 where
  pub guest : new.at GUEST ≡ old.at GUEST
  pub crowd : new.crowd ≡ old.crowd

-- the database was loaded, guests could come in and that is written whole, and then all of them were served, in turn:
-- so much was taken from each and given to it. Where no call on a guest failed, each was given its whole reply
pub record ServedAll (o : ServeOrder) (old new : World) : Type 0 where
  pub database : Database
  pub loaded : Loaded o.database o.width database old new
  pub door : new.at DOOR ≡ named o.listen (old.at DOOR)
  pub written : new.at OUTPUT ≡ gave ready (old.at OUTPUT)
  pub listening : World
  pub nobody : Nobody old listening
  pub turns : AttendsInTurn (service_of o database) o.conns listening new
  pub guests : ServesGuests (service_of o database) o.conns old new
  pub replied : RepliesUnlessCut (service_of o database) o.conns old new

-- the same, but when some guests were served no further one came in
pub record NoFurtherGuest (o : ServeOrder) (old new : World) : Type 0 where
  pub database : Database
  pub loaded : Loaded o.database o.width database old new
  pub door : new.at DOOR ≡ counted (new.at DOOR).faults (named o.listen (old.at DOOR))
  pub rose : DidRiseOnce DOOR old new
  pub written : new.at OUTPUT ≡ gave ready (old.at OUTPUT)
  pub served : ℕ
  pub fewer : served < o.conns
  pub listening : World
  pub nobody : Nobody old listening
  pub last : World
  pub turns : AttendsInTurn (service_of o database) served listening last
  pub none : Fails DOOR last new
  pub others : Touches DOOR last new
  pub guests : ServesGuests (service_of o database) served old new

-- the database was loaded, and Door could not be opened: nothing is written, and nobody came in
pub record CannotListen (o : ServeOrder) (old new : World) : Type 0 where
  pub database : Database
  pub loaded : Loaded o.database o.width database old new
  pub door : new.at DOOR ≡ counted (new.at DOOR).faults (old.at DOOR)
  pub rose : DidRiseOnce DOOR old new
  pub output : new.at OUTPUT ≡ old.at OUTPUT
  pub nobody : Nobody old new

-- the database was loaded and guests could come in, but Output has taken only a prefix of what says so: nobody came in
pub record CannotSayReady (o : ServeOrder) (old new : World) : Type 0 where
  pub database : Database
  pub loaded : Loaded o.database o.width database old new
  pub door : new.at DOOR ≡ named o.listen (old.at DOOR)
  pub written : FailsWithin OUTPUT ready old new
  pub nobody : Nobody old new

-- what `serve` did, by its status
abbrev pub ServeEnds : ServeOrder → Status → World → World → Type 0
ServeEnds o One old new = ServedAll o old new
ServeEnds o ReadFault old new = Unread DATABASE o.database (asked_for o.width) old new × Touches DATABASE old new
ServeEnds o WriteFault old new = CannotSayReady o old new
ServeEnds o (BadInput EmptyFile) old new = HasNoBytes o.database old new × Touches DATABASE old new
ServeEnds o (BadInput (TooBig most)) old new = HasTooMany o.database o.width most old new × Touches DATABASE old new
ServeEnds o DoorFault old new = CannotListen o old new ⊎ NoFurtherGuest o old new
ServeEnds o Memory old new = HasBegun o.database o.width old new × Touches DATABASE old new
ServeEnds o status old new = ⊥

-- all guests were served at a desk, wherever its database was loaded
abbrev pub ServesAt : ServeOrder → Service → World → World → Type 0
ServesAt o service old new = (start : World) → HasOpenDesk o service start old → ServedAll o start new

-- what `serve` did, by its status, wherever the database of its desk was loaded
abbrev pub EndsFromDesk : ServeOrder → Service → Status → World → World → Type 0
EndsFromDesk o service status old new = (start : World) → HasOpenDesk o service start old → ServeEnds o status start new

-- Output, Database, Door and Guest alone are touched, and guests come and go
abbrev pub TouchesServer : World → World → Type 0
TouchesServer old new = TouchesOnly (One OUTPUT ∷ One DATABASE ∷ One DOOR ∷ One GUEST ∷ Crowd ∷ []) old new

-- what `serve` did, and that it did no more; Guest is opened by no name
pub record ServeOutcome (o : ServeOrder) (status : Status) (old new : World) : Type 0 where
  pub ends : ServeEnds o status old new
  pub others : TouchesServer old new
  pub unnamed : (new.at GUEST).opened ≡ (old.at GUEST).opened

-- the ports that `serve` uses but that of its guests
abbrev pub files : List ℕ
files = OUTPUT ∷ DATABASE ∷ DOOR ∷ []

-- what `serve` promises where no call failed but on guests, but that memory may run out: where Database holds a
-- database, each guest was served; where it holds none, that is said
pub record ServePromise (o : ServeOrder) (status : Status) (old new : World) : Type 0 where
  pub served : (bytes : List ℕ) → (old.at DATABASE).holds ≡ Some bytes → 0 < length bytes → length bytes ≤ limit o.width
      → NoneRose files old new → ((status ≡ One) × ServedAll o old new) ⊎ (status ≡ Memory)
  pub empty_file : (old.at DATABASE).holds ≡ Some [] → NoneRose files old new
      → (status ≡ BadInput EmptyFile) ⊎ (status ≡ Memory)
  pub too_big : (bytes : List ℕ) → (old.at DATABASE).holds ≡ Some bytes → limit o.width < length bytes
      → NoneRose files old new → (status ≡ BadInput (TooBig (limit o.width))) ⊎ (status ≡ Memory)
