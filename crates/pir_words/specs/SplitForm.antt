-- The form of `split`.
use Rattle.std.specs.Prelude.{ℕ, ◌<◌, ◌≤◌, ◌&&◌, List, Option, Some, codes, nat_le, nat_lt, true, false}
use Rattle.clap.specs.Words.{App, Row, first_of, new_app}
use Rattle.quantity_limits.specs.declared.TheConstants.{MOST_SERVERS, MOST_WIDTH}
use Rattle.pir_words.specs.Chain.{◌>>=◌, ◌>>◌}
use Rattle.pir_words.specs.Command.{with_option}
use Rattle.pir_words.specs.Numbers.{limited, number_in}
use Rattle.pir_words.specs.Ranges.{coins_in, servers_in}
use Rattle.pir_words.specs.declared.asked.Asked.{Asked}
use Rattle.pir_words.specs.declared.asked.Asked.TheVariants.{Split}

-- `split --database FILE --width S --servers N --tau U --into NAME`
abbrev pub split_app : App
split_app =
    let database = with_option (new_app (codes "split")) (codes "database") true in
    let width = with_option database (codes "width") true in
    let servers = with_option width (codes "servers") true in
    let tau = with_option servers (codes "tau") true in
    let into = with_option tau (codes "into") true in
    with_option into (codes "coins") false

-- the degree in which a database is shared among n servers, at least 1 and less than n
unfoldable pub tau_among : ℕ → List Row → Option ℕ
tau_among n m = do
  tau ← number_in (codes "tau") m
  nat_le 1 tau && nat_lt tau n
  Some tau

-- `split` with its values, each in its range
unfoldable pub split_of : List Row → Option Asked
split_of m = do
  width ← limited (codes "width") 1 MOST_WIDTH m
  servers ← servers_in m
  tau ← tau_among servers m
  database ← first_of (codes "database") m
  into ← first_of (codes "into") m
  Some (Split database width servers tau into (coins_in m))

-- the ranges of the values of `split`: rows of s bytes, shared in the degree tau among n servers
pub record IsSplit (s n tau : ℕ) : Type 0 where
  pub some_bytes : 1 ≤ s
  pub few_bytes : s ≤ MOST_WIDTH
  pub few_servers : n ≤ MOST_SERVERS
  pub some_tau : 1 ≤ tau
  pub few_tau : tau < n

-- where a split is asked for, its values are in their ranges
abbrev pub SplitInRange : Asked → Type 0
SplitInRange (Split database s n tau into coins) = IsSplit s n tau
SplitInRange asked = Unit {0}
