-- What the shards make of a query, in their order.
use Rattle.std.specs.Prelude.{ℕ, ◌≡◌, ◌+◌, ◌*◌, ◌<◌, List, [], ◌∷◌, ◌++◌, length, Option, Some, None, slice_index, slice_index_or}
use Rattle.port_trait.specs.World.{World}
use Rattle.port_trait.specs.Number.{link}
use Rattle.port_trait.specs.Each.{Each, TouchesRange}
use Rattle.chor_xor.specs.Chosen.{combined, combined_at}
use Rattle.wire_frames.specs.declared.header.QueryHeader.{QueryHeader}
use Rattle.wire_frames.specs.Header.{answer_header}
use Rattle.shard_front.specs.declared.relayed.Relayed.{Relayed}
use Rattle.shard_front.specs.declared.relayed.Relayed.TheVariants.{Served, Refused, Gone, GuestFault, ShardLost}
use Rattle.shard_front.specs.Spread.{Spread, shards}
use Rattle.shard_front.specs.RelayedQuery.{RelayedQuery}
use Rattle.shard_front.specs.Parts.{part_at}
use Rattle.shard_front.specs.Shard.{ShardAnswers, ShardIsLost}

-- each of the first n shards was asked, by its address, and answered: these are their payloads
pub record FirstAnswer (relay : RelayedQuery) (n : ℕ) (payloads : List (List ℕ)) (old new : World) : Type 0 where
  pub count : length payloads ≡ n
  pub each : Each (λ i. ShardAnswers (part_at relay i) (slice_index_or payloads i [])) (link 1) n old new

-- the first n shards answered, their payloads have this sum so far, and no link behind theirs was touched
pub record SumsFirst (relay : RelayedQuery) (n : ℕ) (sum : List ℕ) (old new : World) : Type 0 where
  pub payloads : List (List ℕ)
  pub answer : FirstAnswer relay n payloads old new
  pub sum_is : (k : ℕ) → slice_index sum k ≡ combined_at payloads k
  pub others : TouchesRange (link 1) n old new

-- all shards were asked, and answered, and the frame for the guest has the sum of their payloads
pub record AllAnswer (relay : RelayedQuery) (frame : List ℕ) (old new : World) : Type 0 where
  pub payloads : List (List ℕ)
  pub answer : FirstAnswer relay (shards relay.spread) payloads old new
  pub frame_is : frame
      ≡ answer_header relay.header 0 ++ combined (relay.header.count * relay.spread.width) payloads

-- the shard with this number is the first that is lost: those before it answered
pub record FirstLost (relay : RelayedQuery) (number : ℕ) (old new : World) : Type 0 where
  pub place : ℕ
  pub number_is : number ≡ place + 1
  pub there : place < shards relay.spread
  pub payloads : List (List ℕ)
  pub before : FirstAnswer relay place payloads old new
  pub lost : ShardIsLost (part_at relay place) (old.at (link 1 + place)) (new.at (link 1 + place))

-- what asking the shards does, by the number of the lost one, if one is: none behind it is asked
abbrev pub AsksShards : RelayedQuery → Option ℕ → List ℕ → World → World → Type 0
AsksShards relay None sum old new = SumsFirst relay (shards relay.spread) sum old new
AsksShards relay (Some number) sum old new =
    FirstLost relay number old new × TouchesRange (link 1) number old new

-- the status of the frame that names a lost shard
abbrev pub lost_status : ℕ
lost_status = 4

-- the frame that names a lost shard: the header of its status, and the number
abbrev pub lost_frame : QueryHeader → ℕ → List ℕ
lost_frame query number = answer_header query lost_status ++ number ∷ []

-- what the shards make of a query: what its guest is met with, and the frame for it
abbrev pub Asks : RelayedQuery → Relayed → List ℕ → World → World → Type 0
Asks relay Served frame old new = AllAnswer relay frame old new
Asks relay (ShardLost number) frame old new =
    FirstLost relay number old new × (frame ≡ lost_frame relay.header number)
Asks relay (Refused status) frame old new = ⊥
Asks relay Gone frame old new = ⊥
Asks relay GuestFault frame old new = ⊥

-- how many shards were asked, by what the guest is met with
abbrev pub asked_for : Spread → Relayed → ℕ
asked_for spread Served = shards spread
asked_for spread (ShardLost number) = number
asked_for spread (Refused status) = 0
asked_for spread Gone = 0
asked_for spread GuestFault = 0
