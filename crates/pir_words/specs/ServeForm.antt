-- The form of `serve`.
use Rattle.std.specs.Prelude.{ℕ, ◌≡◌, ◌⊎◌, ◌≤◌, List, Option, Some, codes, true, false}
use Rattle.clap.specs.Words.{App, Row, first_of, new_app}
use Rattle.quantity_limits.specs.declared.TheConstants.{MOST_GUESTS, MOST_WIDTH, MOST_WORKERS}
use Rattle.wire_frames.specs.declared.scheme.TheConstants.{SHAMIR, XOR}
use Rattle.wire_frames.specs.Scheme.{number_of}
use Rattle.pir_words.specs.Chain.{◌>>=◌}
use Rattle.pir_words.specs.Command.{with_option}
use Rattle.pir_words.specs.Numbers.{limited}
use Rattle.pir_words.specs.Ranges.{scheme_in, workers_in}
use Rattle.pir_words.specs.declared.asked.Asked.{Asked}
use Rattle.pir_words.specs.declared.asked.Asked.TheVariants.{Serve}

-- `serve --database FILE --width S --conns N --listen ADDR`
abbrev pub serve_app : App
serve_app =
    let database = with_option (new_app (codes "serve")) (codes "database") true in
    let width = with_option database (codes "width") true in
    let conns = with_option width (codes "conns") true in
    let listen = with_option conns (codes "listen") true in
    let scheme = with_option listen (codes "scheme") false in
    with_option scheme (codes "workers") false

-- `serve` with its values, each in its range
unfoldable pub serve_of : List Row → Option Asked
serve_of m = do
  width ← limited (codes "width") 1 MOST_WIDTH m
  conns ← limited (codes "conns") 1 MOST_GUESTS m
  scheme ← scheme_in m
  workers ← workers_in m
  database ← first_of (codes "database") m
  listen ← first_of (codes "listen") m
  Some (Serve (number_of scheme) database width conns listen workers)

-- the ranges of the values of `serve`
pub record IsServe (scheme s conns workers : ℕ) : Type 0 where
  pub known : (scheme ≡ SHAMIR) ⊎ (scheme ≡ XOR)
  pub some_bytes : 1 ≤ s
  pub few_bytes : s ≤ MOST_WIDTH
  pub some_conns : 1 ≤ conns
  pub few_conns : conns ≤ MOST_GUESTS
  pub some_workers : 1 ≤ workers
  pub few_workers : workers ≤ MOST_WORKERS

-- where a server is asked for, its values are in their ranges
abbrev pub ServeInRange : Asked → Type 0
ServeInRange (Serve scheme database s conns listen workers) = IsServe scheme s conns workers
ServeInRange asked = Unit {0}
