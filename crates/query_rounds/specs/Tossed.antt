-- The coins of a fetch.
use Rattle.std.specs.Prelude.{ℕ, List, Result, Ok, Err}
use Rattle.port_trait.specs.World.{World}
use Rattle.port_trait.specs.Number.{COINS}
use Rattle.port_trait.specs.Whole.{FailsShort}
use Rattle.port_trait.specs.Tossed.{Tossed, RunsOut}
use Rattle.query_rounds.specs.declared.plan.FetchFault.{FetchFault}
use Rattle.query_rounds.specs.declared.plan.FetchFault.TheVariants.{CoinsFault, CoinsEnded, Memory}
use Rattle.query_rounds.specs.Queries.{Queries, request_of}
use Rattle.query_rounds.specs.Request.{coins_needed}

-- what taking so many coins from Coins answers. Where a call fails, fewer were taken
abbrev pub TakesCoins : ℕ → Result (Unit {0}) FetchFault → List ℕ → World → World → Type 0
TakesCoins need (Ok _) coins old new = Tossed need coins (old.at COINS) (new.at COINS)
TakesCoins need (Err CoinsFault) coins old new = FailsShort COINS need old new
TakesCoins need (Err (CoinsEnded taken)) coins old new = RunsOut need taken (old.at COINS) (new.at COINS)
TakesCoins need (Err Memory) coins old new = ⊥

-- what taking the coins of queries answers
abbrev pub TakesOwnCoins : Queries → Result (Unit {0}) FetchFault → World → World → Type 0
TakesOwnCoins q result old new = TakesCoins (coins_needed (request_of q)) result q.coins old new
