-- A search that is made once Coins is open.
use Rattle.std.proofs.Common.{◌≡◌, inr, ℕ, List}
use Rattle.std.specs.Prelude.{Result, Ok, Err}
use Rattle.port_trait.specs.World.{World}
use Rattle.port_trait.specs.Number.{COINS}
use Rattle.query_rounds.specs.Gathered.{TouchesLinks}
use Rattle.query_rounds.specs.declared.plan.FetchFault.{FetchFault}
use Rattle.query_rounds.specs.declared.plan.FetchFault.TheVariants.{CoinsFault, CoinsEnded, Memory}
use Rattle.list_finds.specs.Found.{FindsKeys}
use Rattle.list_finds.specs.Wanted.{Wanted}
use Rattle.list_tool.specs.Asking.{Asks, Searches}
use Rattle.list_tool.specs.KeysFile.{Opens}
use Rattle.list_tool.specs.declared.fault.FindFault.TheVariants.{Fetch}

-- it isn't made, for its fault
pub not_asked : (w : Wanted) (coins : List ℕ) (fault : FetchFault) (a b c : World) → Opens COINS coins a b → FindsKeys w (Err fault) (b.at COINS) b c
    → TouchesLinks w.plan.n b c → Asks w coins (Err (Fetch fault)) a c
not_asked w coins CoinsFault a b c opens finds others = inr (record { begun = b; opens = opens; finds = finds; others = others })
not_asked w coins (CoinsEnded taken) a b c opens finds others = record { begun = b; opens = opens; finds = finds; others = others }
not_asked w coins Memory a b c opens finds others = record { begun = b; opens = opens; finds = finds; others = others }
