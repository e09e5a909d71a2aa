-- What the words of `lookup` order.
use Rattle.std.specs.Prelude.{ℕ, List}
use Rattle.query_rounds.specs.declared.plan.FetchPlan.{FetchPlan}

-- the plan of each fetch, the first bytes of the row that is looked for, the address of each server, and the name of the
-- coins
pub record LookUpOrder : Type 0 where
  pub plan : FetchPlan
  pub key : List ℕ
  pub addresses : List (List ℕ)
  pub coins : List ℕ
