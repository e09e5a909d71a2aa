-- What the guests of `front` are given, by what they and the links held as each came in.
use Rattle.std.specs.Prelude.{◌≡◌, ℕ, ◌+◌, ◌<◌, ◌≤◌, Bool, List, [], ◌∷◌, ◌++◌, length, drop, get_or, Some, None}
use Rattle.port_trait.specs.World.{LinkThen, World, answered, links_now}
use Rattle.port_trait.specs.Number.{GUEST}
use Rattle.shard_front.specs.declared.relayed.Relayed.{Relayed}
use Rattle.shard_front.specs.Spread.{Spread, shards}
use Rattle.shard_front.specs.Relay.{Counts, GivesRelay, Visit}

-- what is told of the link with this number
abbrev pub of_link : List LinkThen → ℕ → LinkThen
of_link links number = get_or links number (record { holds = None; faults = 0 })

-- a guest was given some on its visit, by what the link to each shard held as it came in, and by whether the count of
-- that link rose from then to the guest's end
pub record GivenByLinks (spread : Spread) (held : ℕ → List ℕ) (visit : Visit) (thens ends : List LinkThen) : Type 0 where
  pub met : Relayed
  pub failed : ℕ → Bool
  pub rose : (i : ℕ) → i < shards spread → Counts (failed i) (of_link thens (1 + i)).faults (of_link ends (1 + i)).faults
  pub gives : GivesRelay spread (record { held = held; failed = failed }) met visit

-- the same where it is told what the links held
abbrev pub IsFronted : Spread → Visit → List LinkThen → List LinkThen → Type 0
IsFronted spread visit thens ends = (held : ℕ → List ℕ)
    → ((i : ℕ) → i < shards spread → (of_link thens (1 + i)).holds ≡ Some (held i))
    → GivenByLinks spread held visit thens ends

-- the visit of the i-th of these guests, counted from 0, who were given these answers and came in at these counts, and the
-- last of whom ended at this one
abbrev pub visit_at : List (List ℕ) → List (List ℕ) → List ℕ → ℕ → ℕ → Visit
visit_at guests outs counts last i = record {
  guest = get_or guests i [];
  out = get_or outs i [];
  before = get_or counts i 0;
  after = get_or (counts ++ last ∷ []) (i + 1) 0;
}

-- of the guests gs the first j were met, after guests that were given other answers, came in at other counts and found other
-- links. A guest ends at the counts at which the next came in, and the last at the present ones
pub record Fronting (spread : Spread) (gs others : List (List ℕ)) (earlier : List ℕ) (found : List (List LinkThen)) (j : ℕ) (w : World)
    : Type 0 where
  pub outs : List (List ℕ)
  pub counts : List ℕ
  pub thens : List (List LinkThen)
  pub present : List ℕ
  pub there : j ≤ length gs
  pub guests : w.crowd.guests ≡ Some (drop j gs)
  pub answers : answered w ≡ Some (others ++ outs)
  pub since : w.crowd.since ≡ Some (earlier ++ counts)
  pub links : w.crowd.links ≡ Some (found ++ thens)
  pub accepted : (w.at GUEST).accepted ≡ Some present
  pub outs_size : length outs ≡ j
  pub counts_size : length counts ≡ j
  pub thens_size : length thens ≡ j
  pub each : (i : ℕ) → i < j → IsFronted spread (visit_at gs outs counts (w.at GUEST).faults i)
      (get_or thens i []) (get_or (thens ++ links_now w ∷ []) (i + 1) [])

-- j guests were met, where the guests are told
pub record FrontsAll (spread : Spread) (j : ℕ) (old new : World) : Type 0 where
  pub told : (gs others : List (List ℕ)) (earlier before : List ℕ) (found : List (List LinkThen))
      → old.crowd.guests ≡ Some gs → answered old ≡ Some others → old.crowd.since ≡ Some earlier
      → (old.at GUEST).accepted ≡ Some before → old.crowd.links ≡ Some found
      → Fronting spread gs others earlier found j new
