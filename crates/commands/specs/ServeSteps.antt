-- The steps of `serve`, and what each does to the outside.
use Rattle.std.specs.Prelude.{◌≡◌, ℕ, ◌+◌, ◌<◌, List, [], codes, Result, Ok, Err, ◌∷◌}
use Rattle.port_trait.specs.World.{World}
use Rattle.port_trait.specs.Number.{OUTPUT, DATABASE, DOOR, GUEST}
use Rattle.port_trait.specs.Moves.{Fails, RoseAtMost, Touches, gave, named, counted}
use Rattle.port_trait.specs.Whole.{FailsWithin}
use Rattle.port_trait.specs.Touched.{One, Crowd, TouchesOnly}
use Rattle.port_trait.specs.Files.{Unread}
use Rattle.port_trait.specs.Serving.{Served}
use Rattle.block_matrix.specs.Database.{Database, limit}
use Rattle.block_matrix.specs.Loading.{Holds, HoldsMore, HoldsNone, Stopped, asked_for}
use Rattle.serve_core.specs.Service.{Service}
use Rattle.serve_core.specs.Attended.{AttendsNext, HasReply, IsServed}
use Rattle.serve_core.specs.declared.met.Met.{Met}
use Rattle.commands.specs.Told.{DidRise, DidRiseOnce}
use Rattle.commands.specs.ServeOrder.{ServeOrder}
use Rattle.commands.specs.declared.status.Status.{Status}
use Rattle.commands.specs.declared.status.Status.TheVariants.{ReadFault, WriteFault, BadInput, DoorFault, Memory}
use Rattle.commands.specs.declared.status.Bad.TheVariants.{EmptyFile, TooBig}

-- what is written once guests can come in
abbrev pub ready : List ℕ
ready = codes "ready\n"

-- Database was opened by its name and read to its end, and this is the database in it
abbrev pub Loaded : List ℕ → ℕ → Database → World → World → Type 0
Loaded name width database old new = Holds width database (named name (old.at DATABASE)) (new.at DATABASE)

-- it holds no bytes
abbrev pub HasNoBytes : List ℕ → World → World → Type 0
HasNoBytes name old new = HoldsNone (named name (old.at DATABASE)) (new.at DATABASE)

-- it holds more bytes than a database of that width may have, which is the limit
abbrev pub HasTooMany : List ℕ → ℕ → ℕ → World → World → Type 0
HasTooMany name width most old new = (most ≡ limit width) × HoldsMore width (named name (old.at DATABASE)) (new.at DATABASE)

-- it was opened, and no more of its bytes were taken than were asked for
abbrev pub HasBegun : List ℕ → ℕ → World → World → Type 0
HasBegun name width old new = Stopped (asked_for width) (named name (old.at DATABASE)) (new.at DATABASE)

-- opening a desk: the database is loaded, or the run ends with this status
abbrev pub OpensDesk : ServeOrder → Result Service Status → World → World → Type 0
OpensDesk o (Ok service) old new = (service.scheme ≡ o.scheme) × (service.workers ≡ o.workers)
    × Loaded o.database o.width service.database old new
OpensDesk o (Err ReadFault) old new = Unread DATABASE o.database (asked_for o.width) old new
OpensDesk o (Err (BadInput EmptyFile)) old new = HasNoBytes o.database old new
OpensDesk o (Err (BadInput (TooBig most))) old new = HasTooMany o.database o.width most old new
OpensDesk o (Err Memory) old new = HasBegun o.database o.width old new
OpensDesk o (Err status) old new = ⊥

-- the database was loaded, and the desk opened at which it is served
pub record HasOpenDesk (o : ServeOrder) (service : Service) (old new : World) : Type 0 where
  pub opens : OpensDesk o (Ok service) old new
  pub others : Touches DATABASE old new

-- Door was opened at this address, and that is written
pub record IsOpen (address : List ℕ) (old new : World) : Type 0 where
  pub door : new.at DOOR ≡ named address (old.at DOOR)
  pub written : new.at OUTPUT ≡ gave ready (old.at OUTPUT)

-- Door could not be opened, and nothing is written
pub record IsShut (old new : World) : Type 0 where
  pub door : new.at DOOR ≡ counted (new.at DOOR).faults (old.at DOOR)
  pub rose : DidRiseOnce DOOR old new
  pub output : new.at OUTPUT ≡ old.at OUTPUT

-- Door was opened, but Output has taken only a prefix of what says so
pub record IsMute (address : List ℕ) (old new : World) : Type 0 where
  pub door : new.at DOOR ≡ named address (old.at DOOR)
  pub written : FailsWithin OUTPUT ready old new

-- letting guests come in: they can, and that is written; or the run ends with this status
abbrev pub Listens : List ℕ → Result (Unit {0}) Status → World → World → Type 0
Listens address (Ok _) old new = IsOpen address old new
Listens address (Err DoorFault) old new = IsShut old new
Listens address (Err WriteFault) old new = IsMute address old new
Listens address (Err status) old new = ⊥

-- Output and Door alone are touched
abbrev pub TouchesDoor : World → World → Type 0
TouchesDoor old new = TouchesOnly (One OUTPUT ∷ One DOOR ∷ []) old new

-- n guests were served
abbrev pub ServesGuests : Service → ℕ → World → World → Type 0
ServesGuests service n old new = Served (IsServed service) n old new

-- n guests were given their whole replies
abbrev pub RepliesToGuests : Service → ℕ → World → World → Type 0
RepliesToGuests service n old new = Served (λ guest out before after. HasReply service guest out) n old new

-- where no call on a guest failed, n guests were given their whole replies
abbrev pub RepliesUnlessCut : Service → ℕ → World → World → Type 0
RepliesUnlessCut service n old new = (DidRise GUEST old new → ⊥) → RepliesToGuests service n old new

-- n guests came in, and each was attended to, one after the other: the worlds between them, and what each was met with. No
-- more calls on Guest failed than guests came in
pub record AttendsInTurn (service : Service) (n : ℕ) (old new : World) : Type 0 where
  pub worlds : ℕ → World
  pub mets : ℕ → Met
  pub first : worlds 0 ≡ old
  pub last : worlds n ≡ new
  pub each : (i : ℕ) → i < n → AttendsNext service (mets i) (worlds i) (worlds (i + 1))
  pub faults : RoseAtMost n (old.at GUEST).faults (new.at GUEST).faults

-- when some of n guests were served, no further one came in
pub record RunsDry (service : Service) (n : ℕ) (old new : World) : Type 0 where
  pub served : ℕ
  pub fewer : served < n
  pub guests : ServesGuests service served old new
  pub last : World
  pub turns : AttendsInTurn service served old last
  pub none : Fails DOOR last new
  pub others : Touches DOOR last new
  pub door : new.at DOOR ≡ counted (new.at DOOR).faults (old.at DOOR)
  pub rose : DidRiseOnce DOOR old new

-- Door and Guest alone are touched, and guests come and go
abbrev pub TouchesGuests : World → World → Type 0
TouchesGuests old new = TouchesOnly (One DOOR ∷ One GUEST ∷ Crowd ∷ []) old new

-- Output, Door and Guest alone are touched, and guests come and go
abbrev pub TouchesAtDesk : World → World → Type 0
TouchesAtDesk old new = TouchesOnly (One OUTPUT ∷ One DOOR ∷ One GUEST ∷ Crowd ∷ []) old new
