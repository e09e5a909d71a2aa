-- What a fetch asks for, and of whom.
use Rattle.std.specs.Prelude.{ℕ, List, length}
use Rattle.query_rounds.specs.declared.plan.FetchPlan.{FetchPlan}
use Rattle.query_rounds.specs.Plan.{need}

-- blocks that are asked for at once, the plan by which they are, and the address of each server
pub record Request : Type 0 where
  pub plan : FetchPlan
  pub blocks : List ℕ
  pub addresses : List (List ℕ)

-- the request for these blocks, by this plan, of the servers with these addresses
abbrev pub request : FetchPlan → List ℕ → List (List ℕ) → Request
request p blocks addresses = record { plan = p; blocks = blocks; addresses = addresses }

-- how many coins it needs
abbrev pub coins_needed : Request → ℕ
coins_needed r = need r.plan (length r.blocks)
