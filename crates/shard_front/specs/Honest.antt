-- Honest shards: where each link gives what a server of its rows replies, the guest gets what one server of all replies.
use Rattle.std.specs.Prelude.{ℕ, ◌≡◌, ◌+◌, ◌<◌, List, ◌++◌, length, take, drop, Some}
use Rattle.gf256.specs.Product.{IsMatrix}
use Rattle.port_trait.specs.World.{World}
use Rattle.port_trait.specs.Number.{GUEST, link}
use Rattle.port_trait.specs.Moves.{Rose}
use Rattle.wire_frames.specs.declared.header.QueryHeader.{QueryHeader}
use Rattle.wire_frames.specs.declared.scheme.TheConstants.{SHAMIR}
use Rattle.serve_core.specs.Service.{Service}
use Rattle.serve_core.specs.Reply.{Replies}
use Rattle.serve_core.specs.Taking.{IsGood, IsQueryOf}
use Rattle.serve_core.specs.declared.met.Met.{Met}
use Rattle.serve_core.specs.declared.met.Met.TheVariants.{Served as IsServed, Refused as IsRefused, Gone as IsGone, GuestFault as IsFault}
use Rattle.shard_front.specs.declared.relayed.Relayed.{Relayed}
use Rattle.shard_front.specs.declared.relayed.Relayed.TheVariants.{Served, Refused, Gone, GuestFault}
use Rattle.shard_front.specs.Spread.{Spread, first_row, rows_in, shards, terms_of}
use Rattle.shard_front.specs.Parts.{part_for}

-- the rows of the shard at place i, of the rows of a matrix
abbrev pub rows_at : Spread → ℕ → List (List ℕ) → List (List ℕ)
rows_at spread i matrix = take (rows_in spread i) (drop (first_row spread i) matrix)

-- an honest server of these rows, in Shamir's scheme: it replies the same however many workers it has
abbrev pub server_of : Spread → List (List ℕ) → Service
server_of spread rows = record { database = record { rows = rows; width = spread.width }; scheme = SHAMIR; workers = 1 }

-- the bytes begin with the frame that a server replies to a query
pub record BeginsWithReply (server : Service) (query bytes : List ℕ) : Type 0 where
  pub met : Met
  pub frame : List ℕ
  pub replies : Replies server query met frame
  pub begins : take (length frame) bytes ≡ frame

-- where the guest's query is good, each link holds what an honest server of its shard's rows replies to its part of that
abbrev pub AreHonest : Spread → List (List ℕ) → List ℕ → (ℕ → List ℕ) → Type 0
AreHonest spread matrix guest held = (query : QueryHeader) (vectors : List ℕ)
    → IsGood (terms_of spread) query → IsQueryOf (terms_of spread) query vectors guest
    → (i : ℕ) → i < shards spread
    → BeginsWithReply (server_of spread (rows_at spread i matrix)) (part_for spread query vectors i) (held i)

-- how a front says that a guest is met as by a server
abbrev pub relayed_as : Met → Relayed
relayed_as IsServed = Served
relayed_as (IsRefused status) = Refused status
relayed_as IsGone = Gone
relayed_as IsFault = GuestFault

-- the guest is met as by a server, and the frame is what that replies to its bytes
pub record IsReplyOf (server : Service) (guest : List ℕ) (met : Relayed) (frame : List ℕ) : Type 0 where
  pub by : Met
  pub met_is : met ≡ relayed_as by
  pub replies : Replies server guest by frame

-- where the links are honest, the guest is met as by one server of all rows, and the frame is what that replies
abbrev pub HonestShards : Spread → List (List ℕ) → List ℕ → (ℕ → List ℕ) → Relayed → List ℕ → Type 0
HonestShards spread matrix guest held met frame =
    AreHonest spread matrix guest held → IsReplyOf (server_of spread matrix) guest met frame

-- no count of Guest or of a link to a shard rose
pub record NoneRose (spread : Spread) (old new : World) : Type 0 where
  pub guest : Rose (old.at GUEST).faults (new.at GUEST).faults → ⊥
  pub links : (i : ℕ) → i < shards spread → Rose (old.at (link 1 + i)).faults (new.at (link 1 + i)).faults → ⊥

-- for every matrix of all rows, where no count rose, and what Guest and the links hold is told, the guest was given a frame,
-- which is that one where the links are honest
abbrev pub HonestTold : Spread → Relayed → World → World → Type 0
HonestTold spread met old new = (matrix : List (List ℕ)) (guest : List ℕ) (held : ℕ → List ℕ) (accepted : List ℕ)
    → IsMatrix matrix spread.rows spread.width
    → (old.at GUEST).holds ≡ Some guest → (old.at GUEST).accepted ≡ Some accepted
    → ((i : ℕ) → i < shards spread → (old.at (link 1 + i)).holds ≡ Some (held i))
    → NoneRose spread old new
    → (frame : List ℕ) × ((new.at GUEST).accepted ≡ Some (accepted ++ frame)) × HonestShards spread matrix guest held met frame
