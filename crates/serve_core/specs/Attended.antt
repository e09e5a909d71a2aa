-- What a server does with the guest that is in.
use Rattle.std.specs.Prelude.{◌≡◌, ◌⊎◌, ℕ, ◌<◌, ◌≤◌, List, [], length, take, IfSome}
use Rattle.port_trait.specs.World.{World}
use Rattle.port_trait.specs.Number.{GUEST}
use Rattle.port_trait.specs.Guests.{Meets}
use Rattle.port_trait.specs.Moves.{RoseOnce, Touches, took, gave, counted}
use Rattle.serve_core.specs.Service.{Service, terms_of}
use Rattle.serve_core.specs.Case.{ReplyTakes}
use Rattle.serve_core.specs.Reply.{Replies}
use Rattle.serve_core.specs.Taking.{TakesShort}
use Rattle.serve_core.specs.declared.met.Met.{Met}
use Rattle.serve_core.specs.declared.met.Met.TheVariants.{GuestFault}

-- the reply to these bytes takes so many of them and is this frame
pub record IsReply (service : Service) (met : Met) (n : ℕ) (frame bytes : List ℕ) : Type 0 where
  pub replies : Replies service bytes met frame
  pub takes : ReplyTakes (terms_of service) bytes met n
  pub there : n ≤ length bytes

-- the guest was given the whole reply, and its stream lost the n bytes that the reply takes
pub record Replied (service : Service) (met : Met) (old new : World) : Type 0 where
  pub n : ℕ
  pub frame : List ℕ
  pub cell : new.at GUEST ≡ gave frame (took n (old.at GUEST))
  pub told : IfSome (old.at GUEST).holds (IsReply service met n frame)

-- a proper prefix of the reply to these bytes: n bytes of its frame
pub record IsPrefixOfReply (service : Service) (prefix bytes : List ℕ) : Type 0 where
  pub met : Met
  pub frame : List ℕ
  pub n : ℕ
  pub replies : Replies service bytes met frame
  pub proper : n < length frame
  pub prefix_is : prefix ≡ take n frame

-- giving failed: all that the reply takes was taken, and a proper prefix of its frame was given
pub record GivesShort (service : Service) (n : ℕ) (given bytes : List ℕ) : Type 0 where
  pub met : Met
  pub frame : List ℕ
  pub size : ℕ
  pub reply : IsReply service met n frame bytes
  pub proper : size < length frame
  pub prefix_is : given ≡ take size frame

-- what was taken and given before a call on the guest failed
abbrev pub IsBroken : Service → ℕ → List ℕ → List ℕ → Type 0
IsBroken service n given bytes = TakesShort (terms_of service) n given bytes
    ⊎ GivesShort service n given bytes

-- a call on the guest failed, once its stream had lost n bytes and it was given these
pub record Broke (service : Service) (old new : World) : Type 0 where
  pub n : ℕ
  pub given : List ℕ
  pub cell : new.at GUEST ≡ counted (new.at GUEST).faults (gave given (took n (old.at GUEST)))
  pub rose : RoseOnce (old.at GUEST).faults (new.at GUEST).faults
  pub told : IfSome (old.at GUEST).holds (IsBroken service n given)

-- what was done with the guest, by what it was met with
abbrev pub Attends : Service → Met → World → World → Type 0
Attends service GuestFault old new = Broke service old new
Attends service met old new = Replied service met old new

-- the next guest came in, and was attended to, by which nothing but Guest was touched
pub record AttendsNext (service : Service) (met : Met) (old new : World) : Type 0 where
  pub mid : World
  pub meets : Meets old mid
  pub attends : Attends service met mid new
  pub others : Touches GUEST mid new

-- the guest with these bytes was given its whole reply
pub record HasReply (service : Service) (guest out : List ℕ) : Type 0 where
  pub met : Met
  pub replies : Replies service guest met out

-- what a guest was given, by the count of Guest as it came in and at its end: its whole reply where
-- no call on it failed, else nothing, or a prefix of the reply
abbrev pub IsServed : Service → List ℕ → List ℕ → ℕ → ℕ → Type 0
IsServed service guest out before after = ((after ≡ before) × HasReply service guest out)
    ⊎ (RoseOnce before after × ((out ≡ []) ⊎ IsPrefixOfReply service out guest))
