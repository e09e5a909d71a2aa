-- What a front does with the guest that is in.
use Rattle.std.specs.Prelude.{◌≡◌, ◌⊎◌, ℕ, ◌<◌, List, [], ◌∷◌, length, take, IfSome}
use Rattle.port_trait.specs.World.{World}
use Rattle.port_trait.specs.Number.{GUEST, link}
use Rattle.port_trait.specs.Moves.{RoseOnce, Touches, took, gave, counted}
use Rattle.port_trait.specs.Touched.{One, From, TouchesOnly}
use Rattle.wire_frames.specs.declared.header.QueryHeader.{QueryHeader}
use Rattle.serve_core.specs.Terms.{query_len_for}
use Rattle.serve_core.specs.Taking.{BreaksTaking, Dismisses, IsGood, IsQueryOf}
use Rattle.serve_core.specs.declared.met.Met.TheVariants.{Refused as IsRefused, Gone as IsGone}
use Rattle.shard_front.specs.declared.relayed.Relayed.{Relayed}
use Rattle.shard_front.specs.declared.relayed.Relayed.TheVariants.{Served, Refused, Gone, GuestFault, ShardLost}
use Rattle.shard_front.specs.Spread.{Spread, terms_of}
use Rattle.shard_front.specs.RelayedQuery.{relayed_over}
use Rattle.shard_front.specs.Asked.{Asks, asked_for}

-- Guest and the first n links alone are touched
abbrev pub TouchesFirst : ℕ → World → World → Type 0
TouchesFirst n old new = TouchesOnly (One GUEST ∷ From (link 1) n ∷ []) old new

-- the guest's query is good, n bytes with this header and this payload, and the shards were asked: the guest is met so, and
-- this frame is for it. No link was touched but of those that were asked
pub record Relays (spread : Spread) (addresses : List (List ℕ)) (met : Relayed) (n : ℕ) (frame : List ℕ)
    (old new : World) : Type 0 where
  pub query : QueryHeader
  pub vectors : List ℕ
  pub good : IsGood (terms_of spread) query
  pub size : n ≡ query_len_for (terms_of spread) query.count
  pub told : IfSome (old.at GUEST).holds (IsQueryOf (terms_of spread) query vectors)
  pub asked : Asks (relayed_over spread addresses query vectors) met frame old new
  pub others : TouchesFirst (asked_for spread met) old new

-- the guest was given the whole frame
pub record IsRelayed (spread : Spread) (addresses : List (List ℕ)) (met : Relayed) (old new : World) : Type 0 where
  pub n : ℕ
  pub frame : List ℕ
  pub relays : Relays spread addresses met n frame old new
  pub cell : new.at GUEST ≡ gave frame (took n (old.at GUEST))

-- a call on the guest failed when it was given a proper prefix of the frame
pub record BreaksRelay (spread : Spread) (addresses : List (List ℕ)) (old new : World) : Type 0 where
  pub met : Relayed
  pub n : ℕ
  pub frame : List ℕ
  pub given : ℕ
  pub relays : Relays spread addresses met n frame old new
  pub proper : given < length frame
  pub cell : new.at GUEST ≡ counted (new.at GUEST).faults (gave (take given frame) (took n (old.at GUEST)))
  pub rose : RoseOnce (old.at GUEST).faults (new.at GUEST).faults

-- what was done with the guest, by what it was met with. No link was touched where its query wasn't taken whole, or was
-- refused
abbrev pub Fronts : Spread → List (List ℕ) → Relayed → World → World → Type 0
Fronts spread addresses Served old new = IsRelayed spread addresses Served old new
Fronts spread addresses (ShardLost number) old new = IsRelayed spread addresses (ShardLost number) old new
Fronts spread addresses (Refused status) old new =
    Dismisses (terms_of spread) (IsRefused status) old new × Touches GUEST old new
Fronts spread addresses Gone old new = Dismisses (terms_of spread) IsGone old new × Touches GUEST old new
Fronts spread addresses GuestFault old new =
    (BreaksTaking (terms_of spread) old new × Touches GUEST old new) ⊎ BreaksRelay spread addresses old new
