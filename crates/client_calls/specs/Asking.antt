-- For how many blocks a plan asks at once, and how many bytes that takes.
use Rattle.std.specs.Prelude.{ℕ, ◌≡◌, ◌*◌, ◌≤◌, Result, Ok, Err}
use Rattle.quantity_limits.specs.declared.TheConstants.{MOST_BLOCKS, MOST_WIDTH}
use Rattle.wire_frames.specs.Scheme.{scheme_of}
use Rattle.wire_frames.specs.Sizes.{answer_len, query_len}
use Rattle.query_rounds.specs.declared.plan.FetchPlan.{FetchPlan}
use Rattle.query_rounds.specs.Plan.{IsPlan}
use Rattle.client_calls.specs.declared.numbers.PlanNumbers.{PlanNumbers}
use Rattle.client_calls.specs.declared.asking.Asking.{Asking}
use Rattle.client_calls.specs.declared.refusal.Refusal.{Refusal}
use Rattle.client_calls.specs.declared.refusal.Refusal.TheVariants.{Plan, Blocks, Index, Coins, Answers, Room, Memory}
use Rattle.client_calls.specs.Numbers.{plan_of}

-- so many blocks may be asked for at once by a plan
pub record MayAsk (p : FetchPlan) (count : ℕ) : Type 0 where
  pub some : 1 ≤ count
  pub few : count ≤ MOST_BLOCKS
  pub few_bytes : count * p.s ≤ MOST_WIDTH

-- a plan, its scheme, and a number of blocks that may be asked for at once
pub record IsAsking (a : Asking) : Type 0 where
  pub plan : IsPlan a.plan
  pub scheme : a.scheme ≡ scheme_of a.plan.scheme
  pub count : MayAsk a.plan a.count

-- what it is to ask for so many blocks by a plan with these numbers, or why that can't be: the plan's numbers come
-- first
abbrev pub Asks : PlanNumbers → ℕ → Result Asking Refusal → Type 0
Asks p count (Ok a) = IsAsking a × (a.plan ≡ plan_of p) × (a.count ≡ count)
Asks p count (Err Plan) = IsPlan (plan_of p) → ⊥
Asks p count (Err Blocks) = IsPlan (plan_of p) × (MayAsk (plan_of p) count → ⊥)
Asks p count (Err Index) = ⊥
Asks p count (Err Coins) = ⊥
Asks p count (Err Answers) = ⊥
Asks p count (Err (Room wanted)) = ⊥
Asks p count (Err Memory) = ⊥

-- the size that this is for so many blocks by a plan with these numbers, or why there is none
abbrev pub Sizes : (FetchPlan → ℕ → ℕ) → PlanNumbers → ℕ → Result ℕ Refusal → Type 0
Sizes size p count (Ok n) = IsPlan (plan_of p) × MayAsk (plan_of p) count × (n ≡ size (plan_of p) count)
Sizes size p count (Err Plan) = IsPlan (plan_of p) → ⊥
Sizes size p count (Err Blocks) = IsPlan (plan_of p) × (MayAsk (plan_of p) count → ⊥)
Sizes size p count (Err Index) = ⊥
Sizes size p count (Err Coins) = ⊥
Sizes size p count (Err Answers) = ⊥
Sizes size p count (Err (Room wanted)) = ⊥
Sizes size p count (Err Memory) = ⊥

-- how many bytes a query has
abbrev pub query_size : FetchPlan → ℕ → ℕ
query_size p count = query_len (scheme_of p.scheme) count p.r

-- how many bytes a whole answer has
abbrev pub answer_size : FetchPlan → ℕ → ℕ
answer_size p count = answer_len count p.s
