-- The query to one server, written where the caller has room for it.
use Rattle.std.specs.Prelude.{ℕ, ◌≡◌, ◌<◌, ◌≤◌, List, ◌++◌, length, take, drop, Result, Ok, Err}
use Rattle.query_rounds.specs.Plan.{AreBlocks, IsPlan, need}
use Rattle.query_rounds.specs.Sent.{sent}
use Rattle.client_calls.specs.declared.numbers.PlanNumbers.{PlanNumbers}
use Rattle.client_calls.specs.declared.refusal.Refusal.{Refusal}
use Rattle.client_calls.specs.declared.refusal.Refusal.TheVariants.{Plan, Blocks, Index, Coins, Answers, Room, Memory}
use Rattle.client_calls.specs.declared.asking.Asking.{Asking}
use Rattle.client_calls.specs.Asking.{IsAsking}
use Rattle.client_calls.specs.Numbers.{plan_of}

-- what a query is made of: the numbers of a plan, the blocks, the coins, and the index of the server
pub record Order : Type 0 where
  pub numbers : PlanNumbers
  pub blocks : List ℕ
  pub coins : List ℕ
  pub index : ℕ

-- the order with these
abbrev pub order : PlanNumbers → List ℕ → List ℕ → ℕ → Order
order numbers blocks coins index = record { numbers = numbers; blocks = blocks; coins = coins; index = index }

-- the index is that of a server of the plan
abbrev pub IsServer : Order → Type 0
IsServer o = (1 ≤ o.index) × (o.index ≤ o.numbers.servers)

-- how many coins it takes
abbrev pub coins_of : Order → ℕ
coins_of o = need (plan_of o.numbers) (length o.blocks)

-- a query is made of it
pub record IsOrder (o : Order) : Type 0 where
  pub plan : IsPlan (plan_of o.numbers)
  pub blocks : AreBlocks (plan_of o.numbers) o.blocks
  pub server : IsServer o
  pub coins : coins_of o ≤ length o.coins

-- the frame that the server is sent, by the first coins, as many as it takes
abbrev pub frame_of : Order → List ℕ
frame_of o = sent (plan_of o.numbers) o.blocks (take (coins_of o) o.coins) o.index

-- why no query is made of it: the plan, then the blocks, then the index, then the coins
abbrev pub RefusesOrder : Order → Refusal → Type 0
RefusesOrder o Plan = IsPlan (plan_of o.numbers) → ⊥
RefusesOrder o Blocks = IsPlan (plan_of o.numbers) × (AreBlocks (plan_of o.numbers) o.blocks → ⊥)
RefusesOrder o Index = IsPlan (plan_of o.numbers) × AreBlocks (plan_of o.numbers) o.blocks × (IsServer o → ⊥)
RefusesOrder o Coins =
    IsPlan (plan_of o.numbers) × AreBlocks (plan_of o.numbers) o.blocks × IsServer o × (length o.coins < coins_of o)
RefusesOrder o Answers = ⊥
RefusesOrder o (Room wanted) = ⊥
RefusesOrder o Memory = ⊥

-- what is asked for by an order, or why it isn't
abbrev pub TakesOrder : Order → Result Asking Refusal → Type 0
TakesOrder o (Ok a) = IsOrder o × IsAsking a × (a.plan ≡ plan_of o.numbers) × (a.count ≡ length o.blocks)
TakesOrder o (Err refusal) = RefusesOrder o refusal

-- the room holds less than the frame
abbrev pub LacksRoom : Order → List ℕ → ℕ → Type 0
LacksRoom o room wanted = IsOrder o × (wanted ≡ length (frame_of o)) × (length room < wanted)

-- why the query isn't written: as above, and last for want of room
abbrev pub RefusesQuery : Order → List ℕ → Refusal → Type 0
RefusesQuery o room Plan = RefusesOrder o Plan
RefusesQuery o room Blocks = RefusesOrder o Blocks
RefusesQuery o room Index = RefusesOrder o Index
RefusesQuery o room Coins = RefusesOrder o Coins
RefusesQuery o room Answers = ⊥
RefusesQuery o room Memory = ⊥
RefusesQuery o room (Room wanted) = LacksRoom o room wanted

-- the frame is written at the front of the room, and its length is told; what is refused leaves the room as it was
abbrev pub WritesQuery : Order → List ℕ → List ℕ → Result ℕ Refusal → Type 0
WritesQuery o old new (Ok used) =
    IsOrder o × (used ≡ length (frame_of o)) × (used ≤ length old) × (new ≡ frame_of o ++ drop used old)
WritesQuery o old new (Err refusal) = RefusesQuery o old refusal × (new ≡ old)
