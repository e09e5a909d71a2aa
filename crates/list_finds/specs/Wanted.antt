-- What is looked for, and of whom.
use Rattle.std.specs.Prelude.{◌≡◌, ℕ, ◌+◌, ◌-◌, ◌*◌, ◌/◌, ◌≤◌, min, List, length, map, take, drop}
use Rattle.std.specs.Borrow.{Bor}
use Rattle.quantity_limits.specs.declared.TheConstants.{MOST_BLOCKS, MOST_WIDTH}
use Rattle.wire_frames.specs.declared.scheme.TheConstants.{SHAMIR}
use Rattle.query_rounds.specs.declared.coins.TheConstants.{NUMBER_LEN}
use Rattle.query_rounds.specs.declared.plan.FetchPlan.{FetchPlan}
use Rattle.query_rounds.specs.Plan.{IsPlan}
use Rattle.query_rounds.specs.Sent.{vector_coins}
use Rattle.list_finds.specs.Known.{IsKnown, row_in}
use Rattle.list_finds.specs.declared.TheConstants.{MOST_KEYS}
use Rattle.list_finds.specs.declared.known_list.KnownList.{KnownList}

-- keys that lie elsewhere
abbrev pub held_keys : List (Bor (List ℕ)) → List (List ℕ)
held_keys keys = map (λ key. key.now) keys

-- the plan of each query, the list, the keys that are looked for in it, and the address of each server
pub record Wanted : Type 0 where
  pub plan : FetchPlan
  pub list : KnownList
  pub keys : List (List ℕ)
  pub addresses : List (List ℕ)

-- it is a plan in Shamir's sharing and a list that is known, the keys are no more than may be, and each server has an
-- address
pub record IsWanted (w : Wanted) : Type 0 where
  pub plan : IsPlan w.plan
  pub shamir : w.plan.scheme ≡ SHAMIR
  pub known : IsKnown w.list
  pub few : length w.keys ≤ MOST_KEYS
  pub addresses : length w.addresses ≡ w.plan.n

-- how many keys a query has at most: as many as it may ask for blocks, all rows of which together have no more bytes
-- than it may ask for
abbrev pub keys_each : ℕ → ℕ
keys_each width = min MOST_BLOCKS (MOST_WIDTH / width)

-- how many queries there are: as many keys as a query has at most in each, and fewer in the last
abbrev pub queries_for : Wanted → ℕ
queries_for w = (length w.keys + (keys_each w.plan.s - 1)) / keys_each w.plan.s

-- the keys of a query, counted from 0
abbrev pub keys_of : Wanted → ℕ → List (List ℕ)
keys_of w query = take (keys_each w.plan.s) (drop (query * keys_each w.plan.s) w.keys)

-- the rows that keys belong to
abbrev pub rows_of : Wanted → List (List ℕ) → List ℕ
rows_of w keys = map (row_in w.list w.plan.r) keys

-- how many coins all queries take: for each query those of its session's number, and for each key those of its row
abbrev pub coins_wanted : Wanted → ℕ
coins_wanted w = queries_for w * NUMBER_LEN + length w.keys * vector_coins w.plan
