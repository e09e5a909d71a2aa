-- What the words of `fetch` order.
use Rattle.std.specs.Prelude.{ℕ, Bool, false, List, Option, None}
use Rattle.query_rounds.specs.declared.plan.FetchPlan.{FetchPlan}

-- the plan, the blocks that are fetched, the address of each server, the name of the coins, that of the record, where one is
-- kept, and whether a report is wanted
pub record FetchOrder : Type 0 where
  pub plan : FetchPlan
  pub blocks : List ℕ
  pub addresses : List (List ℕ)
  pub coins : List ℕ
  pub keep : Option (List ℕ)
  pub report : Bool

-- a fetch that isn't recorded, and of which no report is wanted
abbrev pub plain_fetch : FetchPlan → List ℕ → List (List ℕ) → List ℕ → FetchOrder
plain_fetch plan blocks addresses coins = record {
  plan = plan;
  blocks = blocks;
  addresses = addresses;
  coins = coins;
  keep = None;
  report = false;
}
