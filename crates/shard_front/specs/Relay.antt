-- What a front makes of the bytes of a guest, by what the links to the shards hold, and which of them fail.
use Rattle.std.specs.Prelude.{ℕ, ◌≡◌, ◌⊎◌, ◌+◌, ◌*◌, ◌<◌, List, [], ◌++◌, length, take, Bool, true, false, Option, Some, None, slice_index_or}
use Rattle.port_trait.specs.World.{World}
use Rattle.port_trait.specs.Number.{GUEST, link}
use Rattle.port_trait.specs.Moves.{RoseOnce}
use Rattle.chor_xor.specs.Chosen.{combined}
use Rattle.wire_frames.specs.declared.header.QueryHeader.{QueryHeader}
use Rattle.wire_frames.specs.Answer.{usable}
use Rattle.wire_frames.specs.Header.{answer_header, answer_to}
use Rattle.wire_frames.specs.Sizes.{answer_len}
use Rattle.serve_core.specs.Case.{IsCut, Refuses, header_of}
use Rattle.serve_core.specs.Taking.{IsGood, IsQueryOf}
use Rattle.shard_front.specs.declared.relayed.Relayed.{Relayed}
use Rattle.shard_front.specs.declared.relayed.Relayed.TheVariants.{Served, Refused, Gone, GuestFault, ShardLost}
use Rattle.shard_front.specs.Spread.{Spread, shards, terms_of}
use Rattle.shard_front.specs.Parts.{header_to}
use Rattle.shard_front.specs.Asked.{lost_frame}

-- what the link to each shard holds, by its place, and whether it fails
pub record Links : Type 0 where
  pub held : ℕ → List ℕ
  pub failed : ℕ → Bool

-- the payload that the shard at place i gives, by what its link holds and whether it fails: none where it is lost
abbrev pub payload_from : Spread → QueryHeader → ℕ → List ℕ → Bool → Option (List ℕ)
payload_from spread query i held true = None
payload_from spread query i held false =
    usable (take (answer_len query.count spread.width) held) (header_to spread query i)

-- the same by the links
abbrev pub payload_at : Spread → QueryHeader → Links → ℕ → Option (List ℕ)
payload_at spread query links i = payload_from spread query i (links.held i) (links.failed i)

-- these are the payloads that the first n shards give
pub record GivePayloads (spread : Spread) (query : QueryHeader) (links : Links) (n : ℕ) (payloads : List (List ℕ)) : Type 0 where
  pub count : length payloads ≡ n
  pub each : (i : ℕ) → i < n → payload_at spread query links i ≡ Some (slice_index_or payloads i [])

-- the guest's query is good, and the frame has the sum of the payloads that all shards give
pub record RelaysSum (spread : Spread) (guest : List ℕ) (links : Links) (frame : List ℕ) : Type 0 where
  pub query : QueryHeader
  pub vectors : List ℕ
  pub good : IsGood (terms_of spread) query
  pub asks : IsQueryOf (terms_of spread) query vectors guest
  pub payloads : List (List ℕ)
  pub give : GivePayloads spread query links (shards spread) payloads
  pub frame_is : frame ≡ answer_header query 0 ++ combined (query.count * spread.width) payloads

-- the guest's query is good, and the shard with this number is the first that is lost, which the frame says
pub record RelaysLoss (spread : Spread) (guest : List ℕ) (links : Links) (number : ℕ) (frame : List ℕ) : Type 0 where
  pub query : QueryHeader
  pub vectors : List ℕ
  pub good : IsGood (terms_of spread) query
  pub asks : IsQueryOf (terms_of spread) query vectors guest
  pub place : ℕ
  pub number_is : number ≡ place + 1
  pub there : place < shards spread
  pub payloads : List (List ℕ)
  pub before : GivePayloads spread query links place payloads
  pub lost : payload_at spread query links place ≡ None
  pub frame_is : frame ≡ lost_frame query number

-- what a guest with these bytes is met with, and the frame for it: as at a server of all rows up to the payload, and then by
-- the links
abbrev pub IsRelay : Spread → List ℕ → Links → Relayed → List ℕ → Type 0
IsRelay spread guest links Served frame = RelaysSum spread guest links frame
IsRelay spread guest links (ShardLost number) frame = RelaysLoss spread guest links number frame
IsRelay spread guest links (Refused status) frame = Refuses (terms_of spread) guest status
    × (frame ≡ answer_to (header_of guest) status)
IsRelay spread guest links Gone frame = IsCut (terms_of spread) guest × (frame ≡ [])
IsRelay spread guest links GuestFault frame = ⊥

-- a count rose by one, or is as before
abbrev pub Counts : Bool → ℕ → ℕ → Type 0
Counts true before after = RoseOnce before after
Counts false before after = after ≡ before

-- the links hold this, and those failed whose counts rose, each by one
pub record AreLinks (spread : Spread) (links : Links) (old new : World) : Type 0 where
  pub held : (i : ℕ) → i < shards spread → (old.at (link 1 + i)).holds ≡ Some (links.held i)
  pub failed : (i : ℕ) → i < shards spread
      → Counts (links.failed i) (old.at (link 1 + i)).faults (new.at (link 1 + i)).faults

-- the guest was given the whole frame
pub record HasRelay (spread : Spread) (guest : List ℕ) (links : Links) (out : List ℕ) : Type 0 where
  pub met : Relayed
  pub relay : IsRelay spread guest links met out

-- a proper prefix of the frame: n bytes of it
pub record IsPrefixOfRelay (spread : Spread) (guest : List ℕ) (links : Links) (prefix : List ℕ) : Type 0 where
  pub met : Relayed
  pub frame : List ℕ
  pub n : ℕ
  pub relay : IsRelay spread guest links met frame
  pub proper : n < length frame
  pub prefix_is : prefix ≡ take n frame

-- the visit of a guest: its bytes, what it was given, and the count of Guest as it came in and at its end
pub record Visit : Type 0 where
  pub guest : List ℕ
  pub out : List ℕ
  pub before : ℕ
  pub after : ℕ

-- what a guest was given, by what it was met with: the whole frame for that, and the count of Guest stayed; or nothing or a
-- proper prefix of a frame, and it rose
abbrev pub GivesRelay : Spread → Links → Relayed → Visit → Type 0
GivesRelay spread links GuestFault visit = RoseOnce visit.before visit.after
    × ((visit.out ≡ []) ⊎ IsPrefixOfRelay spread visit.guest links visit.out)
GivesRelay spread links met visit =
    (visit.after ≡ visit.before) × IsRelay spread visit.guest links met visit.out

-- the visit of a guest that came in at one world, had these bytes and was given some, and ended at another
abbrev pub visit_of : List ℕ → List ℕ → World → World → Visit
visit_of guest out old new =
    record { guest = guest; out = out; before = (old.at GUEST).faults; after = (new.at GUEST).faults }

-- what was done with a guest with these bytes, where the links hold these
pub record FrontsBytes (spread : Spread) (guest : List ℕ) (held : ℕ → List ℕ) (before : List ℕ) (met : Relayed) (old new : World)
    : Type 0 where
  pub failed : ℕ → Bool
  pub out : List ℕ
  pub links : AreLinks spread (record { held = held; failed = failed }) old new
  pub accepted : (new.at GUEST).accepted ≡ Some (before ++ out)
  pub gives : GivesRelay spread (record { held = held; failed = failed }) met (visit_of guest out old new)

-- the same, where that is told
abbrev pub FrontsTold : Spread → Relayed → World → World → Type 0
FrontsTold spread met old new = (guest : List ℕ) (held : ℕ → List ℕ) (accepted : List ℕ)
    → (old.at GUEST).holds ≡ Some guest → (old.at GUEST).accepted ≡ Some accepted
    → ((i : ℕ) → i < shards spread → (old.at (link 1 + i)).holds ≡ Some (held i))
    → FrontsBytes spread guest held accepted met old new
