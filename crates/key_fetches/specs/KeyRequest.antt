-- What a look-up asks for, and of whom.
use Rattle.std.specs.Prelude.{◌≡◌, ◌≤◌, ℕ, List, length}
use Rattle.wire_frames.specs.declared.scheme.TheConstants.{SHAMIR}
use Rattle.query_rounds.specs.declared.plan.FetchPlan.{FetchPlan}
use Rattle.query_rounds.specs.Plan.{IsPlan}

-- the plan of each fetch, the key of the row that is looked for, and the address of each server
pub record KeyRequest : Type 0 where
  pub plan : FetchPlan
  pub key : List ℕ
  pub addresses : List (List ℕ)

-- the request for the row with this key, by this plan, of the servers with these addresses
abbrev pub key_request : FetchPlan → List ℕ → List (List ℕ) → KeyRequest
key_request p key addresses = record { plan = p; key = key; addresses = addresses }

-- it is a plan in Shamir's sharing, the key is at most as long as a row, and each server has an address
pub record IsKeyRequest (r : KeyRequest) : Type 0 where
  pub plan : IsPlan r.plan
  pub shamir : r.plan.scheme ≡ SHAMIR
  pub key : length r.key ≤ r.plan.s
  pub addresses : length r.addresses ≡ r.plan.n
