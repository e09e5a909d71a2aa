-- The form of `demo`.
use Rattle.std.specs.Prelude.{ℕ, ◌<◌, ◌≤◌, List, Option, Some, codes, true, false}
use Rattle.clap.specs.Words.{App, Row, first_of, new_app}
use Rattle.pir_words.specs.Chain.{◌>>=◌}
use Rattle.pir_words.specs.Command.{with_option}
use Rattle.pir_words.specs.Numbers.{limited}
use Rattle.pir_words.specs.Ranges.{FitsSession, block_in, coins_in, servers_in, sharing_in, sharing_of, sizes_in, sizes_of}
use Rattle.wire_frames.specs.declared.scheme.TheConstants.{SHAMIR}
use Rattle.pir_words.specs.declared.TheConstants.{LEAST_PORT, MOST_PORT}
use Rattle.pir_words.specs.declared.ranges.Sizes.{Sizes}
use Rattle.pir_words.specs.declared.ranges.Sharing.{Sharing}
use Rattle.pir_words.specs.declared.asked.Asked.{Asked}
use Rattle.pir_words.specs.declared.asked.Asked.TheVariants.{Demo}

-- `demo --port P --database FILE --rows R --width S --block B --servers N --degree T --agree H`
abbrev pub demo_app : App
demo_app =
    let port = with_option (new_app (codes "demo")) (codes "port") true in
    let database = with_option port (codes "database") true in
    let rows = with_option database (codes "rows") true in
    let width = with_option rows (codes "width") true in
    let block = with_option width (codes "block") true in
    let servers = with_option block (codes "servers") true in
    let degree = with_option servers (codes "degree") true in
    let agree = with_option degree (codes "agree") true in
    with_option agree (codes "coins") false

-- `demo` with its values, each in its range
unfoldable pub demo_of : List Row → Option Asked
demo_of m = do
  port ← limited (codes "port") LEAST_PORT MOST_PORT m
  database ← first_of (codes "database") m
  (sizes : Sizes) ← sizes_in m
  block ← block_in sizes.rows m
  servers ← servers_in m
  (sharing : Sharing) ← sharing_in servers m
  Some (Demo port database sizes.rows sizes.width block servers
      sharing.degree sharing.agree (coins_in m))

-- the values of `demo` are those of a session of n servers in Shamir's scheme, the block is one of the rows, and there is a port
pub record IsDemo (port : ℕ) (sizes : Sizes) (b n : ℕ) (sharing : Sharing) : Type 0 where
  pub some_port : LEAST_PORT ≤ port
  pub few_ports : port ≤ MOST_PORT
  pub numbers : FitsSession SHAMIR sharing n sizes
  pub block : b < sizes.rows

-- where a demonstration is asked for, its values are in their ranges
abbrev pub DemoInRange : Asked → Type 0
DemoInRange (Demo port database r s b n t h coins) = IsDemo port (sizes_of r s) b n (sharing_of t h)
DemoInRange asked = Unit {0}
