-- Each command: what its words order, what is done for that, and what is promised.
use Rattle.std.specs.Prelude.{◌≡◌, ℕ, List, length, Some, option_map}
use Rattle.port_trait.specs.World.{World}
use Rattle.wire_frames.specs.declared.scheme.TheConstants.{SHAMIR}
use Rattle.query_rounds.specs.declared.plan.FetchPlan.{FetchPlan}
use Rattle.pir_words.specs.Form.{asked_of}
use Rattle.pir_words.specs.declared.asked.Asked.{Asked}
use Rattle.pir_words.specs.declared.asked.Asked.TheVariants.{Replay, Fetch, Serve, Selfrun, Demo, Lookup, Split, Front}
use Rattle.commands.specs.ReplayOutcome.{ReplayOutcome, ReplayPromise}
use Rattle.commands.specs.FetchOutcome.{FetchOutcome, FetchPromise}
use Rattle.commands.specs.ServeOutcome.{ServeOutcome, ServePromise}
use Rattle.commands.specs.SelfrunOutcome.{SelfrunOutcome, SelfrunPromise}
use Rattle.commands.specs.DemoOutcome.{DemoOutcome, DemoPromise}
use Rattle.commands.specs.LookUpOutcome.{LookUpOutcome, LookUpPromise}
use Rattle.commands.specs.SplitOutcome.{SplitOutcome, SplitPromise}
use Rattle.commands.specs.FrontOutcome.{FrontOutcome, FrontPromise}
use Rattle.commands.specs.declared.orders.Order.{Order}
use Rattle.commands.specs.declared.orders.Order.TheVariants.{Replay as ToReplay, Fetch as ToFetch, Serve as ToServe}
use Rattle.commands.specs.declared.orders.Order.TheVariants.{Selfrun as ToSelfrun, Demo as ToDemo, Lookup as ToLookUp}
use Rattle.commands.specs.declared.orders.Order.TheVariants.{Split as ToSplit, Front as ToFront}
use Rattle.commands.specs.declared.status.Status.{Status}

-- a plan in Shamir's scheme, by which each of n servers holds the whole database
abbrev pub plan_with : ℕ → ℕ → ℕ → ℕ → ℕ → FetchPlan
plan_with rows width n degree agree = record {
  scheme = SHAMIR;
  t = degree;
  tau = 0;
  h = agree;
  n = n;
  r = rows;
  s = width;
}

-- what a command with its values orders
abbrev pub order_of : Asked → Order
order_of (Replay file report) = ToReplay (record { file = file; report = report })
order_of (Fetch scheme rows width blocks degree tau agree coins keep report addresses) = ToFetch (record {
  plan = record { scheme = scheme; t = degree; tau = tau; h = agree; n = length addresses; r = rows; s = width };
  blocks = blocks;
  addresses = addresses;
  coins = coins;
  keep = keep;
  report = report;
})
order_of (Serve scheme database width conns listen workers) = ToServe (record {
  scheme = scheme;
  database = database;
  width = width;
  conns = conns;
  listen = listen;
  workers = workers;
})
order_of (Selfrun seed rows width servers degree agree liars workers slow) = ToSelfrun (record {
  load = record {
    seed = seed;
    rows = rows;
    width = width;
    servers = servers;
    degree = degree;
    agree = agree;
    liars = liars;
  };
  workers = workers;
  slow = slow;
})
order_of (Demo port database rows width block servers degree agree coins) = ToDemo (record {
  port = port;
  database = database;
  plan = plan_with rows width servers degree agree;
  block = block;
  coins = coins;
})
order_of (Lookup rows width key degree agree coins addresses) = ToLookUp (record {
  plan = plan_with rows width (length addresses) degree agree;
  key = key;
  addresses = addresses;
  coins = coins;
})
order_of (Split database width servers tau into coins) = ToSplit (record {
  database = database;
  width = width;
  servers = servers;
  tau = tau;
  into = into;
  coins = coins;
})
order_of (Front rows width shard conns listen addresses) = ToFront (record {
  spread = record { rows = rows; width = width; shard = shard };
  conns = conns;
  listen = listen;
  addresses = addresses;
})

-- the words order this
abbrev pub Orders : List (List ℕ) → Order → Type 0
Orders words order = option_map order_of (asked_of words) ≡ Some order

-- what was done for an order, by the status
abbrev pub Outcome : Order → Status → World → World → Type 0
Outcome (ToReplay order) status old new = ReplayOutcome order.file order.report status old new
Outcome (ToFetch order) status old new = FetchOutcome order status old new
Outcome (ToServe order) status old new = ServeOutcome order status old new
Outcome (ToSelfrun order) status old new = SelfrunOutcome order.load status old new
Outcome (ToDemo order) status old new = DemoOutcome order status old new
Outcome (ToLookUp order) status old new = LookUpOutcome order status old new
Outcome (ToSplit order) status old new = SplitOutcome order status old new
Outcome (ToFront order) status old new = FrontOutcome order status old new

-- what is promised of an order where no call failed
abbrev pub Promise : Order → Status → World → World → Type 0
Promise (ToReplay order) status old new = ReplayPromise order.report status old new
Promise (ToFetch order) status old new = FetchPromise order status old new
Promise (ToServe order) status old new = ServePromise order status old new
Promise (ToSelfrun order) status old new = SelfrunPromise order.load status old new
Promise (ToDemo order) status old new = DemoPromise order status old new
Promise (ToLookUp order) status old new = LookUpPromise order status old new
Promise (ToSplit order) status old new = SplitPromise order status old new
Promise (ToFront order) status old new = FrontPromise order status old new
