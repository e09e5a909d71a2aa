-- Asking the servers that a catalog or options name.
use Rattle.std.specs.Prelude.{◌≡◌, ◌⊎◌, ℕ, List, length, Result, Ok, Err}
use Rattle.port_trait.specs.World.{World}
use Rattle.port_trait.specs.Number.{COINS}
use Rattle.port_trait.specs.Moves.{Fails}
use Rattle.quantity_limits.specs.Shape.{IsShape}
use Rattle.wire_frames.specs.declared.scheme.TheConstants.{SHAMIR}
use Rattle.query_rounds.specs.declared.plan.FetchPlan.{FetchPlan}
use Rattle.query_rounds.specs.declared.plan.FetchFault.{FetchFault}
use Rattle.query_rounds.specs.declared.plan.FetchFault.TheVariants.{CoinsFault, CoinsEnded, Memory}
use Rattle.query_rounds.specs.Gathered.{TouchesLinks}
use Rattle.list_catalog.specs.Facts.{Facts}
use Rattle.list_catalog.specs.Serving.{Serving}
use Rattle.list_finds.specs.Found.{Come, FindsKeys}
use Rattle.list_finds.specs.Known.{IsKnown}
use Rattle.list_finds.specs.Wanted.{Wanted}
use Rattle.list_tool.specs.KeysFile.{Opens}
use Rattle.list_tool.specs.declared.table.ListTable.{ListTable}
use Rattle.list_tool.specs.declared.fault.FindFault.{FindFault}
use Rattle.list_tool.specs.declared.fault.FindFault.TheVariants.{Catalog, Servers, Keys, Fetch, WriteFault, Memory as NoMemory}

-- the table that a catalog is of
abbrev pub table_for : Facts → ListTable
table_for f = record {
  list = record { salt = f.salt; tag = f.tag; size = f.digest; most = f.value };
  rows = f.rows;
  width = f.width;
}

-- the list is one that may be known, and the rows are those of a database
pub record IsListTable (table : ListTable) : Type 0 where
  pub known : IsKnown table.list
  pub shape : IsShape table.rows table.width

-- how rows of the table are fetched from the servers
abbrev pub plan_for : ListTable → Serving → FetchPlan
plan_for table servers = record {
  scheme = SHAMIR;
  t = servers.degree;
  tau = 0;
  h = servers.agree;
  n = length servers.addresses;
  r = table.rows;
  s = table.width;
}

-- the search for keys in the list of the table
abbrev pub wanted_for : ListTable → Serving → List (List ℕ) → Wanted
wanted_for table servers keys =
    record { plan = plan_for table servers; list = table.list; keys = keys; addresses = servers.addresses }

-- Coins was opened by this name, and then the search was made
pub record Searches (w : Wanted) (coins : List ℕ) (result : Result Come FetchFault) (old new : World) : Type 0 where
  pub begun : World
  pub opens : Opens COINS coins old begun
  pub finds : FindsKeys w result (begun.at COINS) begun new
  pub others : TouchesLinks w.plan.n begun new

-- what asking the servers answers: what the search came to, or why it wasn't made. For want of memory nothing is touched,
-- or the search ended early
abbrev pub Asks : Wanted → List ℕ → Result Come FindFault → World → World → Type 0
Asks w coins (Ok come) old new = Searches w coins (Ok come) old new
Asks w coins (Err (Fetch CoinsFault)) old new = Fails COINS old new ⊎ Searches w coins (Err CoinsFault) old new
Asks w coins (Err (Fetch (CoinsEnded taken))) old new = Searches w coins (Err (CoinsEnded taken)) old new
Asks w coins (Err (Fetch Memory)) old new = Searches w coins (Err Memory) old new
Asks w coins (Err NoMemory) old new = new ≡ old
Asks w coins (Err (Catalog fault)) old new = ⊥
Asks w coins (Err (Servers fault)) old new = ⊥
Asks w coins (Err (Keys fault)) old new = ⊥
Asks w coins (Err WriteFault) old new = ⊥
