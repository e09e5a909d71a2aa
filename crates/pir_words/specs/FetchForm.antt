-- The form of `fetch`.
use Rattle.std.specs.Prelude.{ℕ, ◌≡◌, ◌+◌, ◌*◌, ◌-◌, ◌<◌, ◌≤◌, ◌==◌, ◌&&◌, Bool, List, [], ◌∷◌, All, length}
use Rattle.std.specs.Prelude.{Option, None, Some, option_map, codes, is_none, nat_le, nat_lt, unwrap_or, true, false}
use Rattle.std.specs.List.{slice_split}
use Rattle.clap.specs.Words.{App, Row, Text, all_of, first_of, new_app, with_rule}
use Rattle.quantity_limits.specs.declared.TheConstants.{LEAST_SERVERS, MOST_BLOCKS, MOST_SERVERS, MOST_WIDTH}
use Rattle.wire_frames.specs.declared.scheme.TheConstants.{XOR}
use Rattle.wire_frames.specs.declared.scheme.Scheme.{Scheme}
use Rattle.wire_frames.specs.declared.scheme.Scheme.TheVariants.{Shamir, Xor}
use Rattle.wire_frames.specs.Scheme.{number_of}
use Rattle.pir_words.specs.Chain.{◌>>=◌, ◌>>◌}
use Rattle.pir_words.specs.Command.{operands_rule, with_flag, with_option}
use Rattle.pir_words.specs.Numbers.{flag_in, number}
use Rattle.pir_words.specs.Ranges.{FitsSession, block_in, coins_in, row_named, scheme_in, sharing_in, sharing_of, sizes_in, sizes_of}
use Rattle.pir_words.specs.declared.TheConstants.{MOST_TAU}
use Rattle.pir_words.specs.declared.ranges.Sizes.{Sizes}
use Rattle.pir_words.specs.declared.ranges.Sharing.{Sharing}
use Rattle.pir_words.specs.declared.asked.Asked.{Asked}
use Rattle.pir_words.specs.declared.asked.Asked.TheVariants.{Fetch}

-- `fetch --rows R --width S --block B --more B,.. --degree T --tau U --agree H --report ADDRESS..`
abbrev pub fetch_app : App
fetch_app =
    let rows = with_option (new_app (codes "fetch")) (codes "rows") true in
    let width = with_option rows (codes "width") true in
    let block = with_option width (codes "block") true in
    let more = with_option block (codes "more") false in
    let scheme = with_option more (codes "scheme") false in
    let degree = with_option scheme (codes "degree") false in
    let tau = with_option degree (codes "tau") false in
    let agree = with_option tau (codes "agree") false in
    let coins = with_option agree (codes "coins") false in
    let recorded = with_option coins (codes "record") false in
    let reported = with_flag recorded (codes "report") in
    with_rule reported (operands_rule (codes "addresses"))

-- the addresses, of no more servers than there may be
unfoldable pub addresses_in : List Row → Option (List Text)
addresses_in m = do
  addresses ← all_of (codes "addresses") m
  nat_le (length addresses) MOST_SERVERS
  Some addresses

-- in the XOR scheme neither degree nor agreement is given: of n servers all have to answer, and all
-- but one learn nothing
unfoldable pub xor_sharing_in : ℕ → List Row → Option Sharing
xor_sharing_in n m = do
  is_none (first_of (codes "degree") m) && is_none (first_of (codes "agree") m)
  nat_le LEAST_SERVERS n
  Some (record { degree = n - 1; agree = n })

-- the degree and the agreement of n servers in a scheme
unfoldable pub fetch_sharing_in : Scheme → ℕ → List Row → Option Sharing
fetch_sharing_in Shamir n m = sharing_in n m
fetch_sharing_in Xor n m = xor_sharing_in n m

-- the degree in which the database is shared, 0 where it isn't given: with that of the queries it is
-- less than the agreement. In the XOR scheme it is not given
unfoldable pub tau_in : Scheme → Sharing → List Row → Option ℕ
tau_in Shamir sharing m = do
  tau ← number (unwrap_or (first_of (codes "tau") m) (codes "0"))
  nat_le tau MOST_TAU && nat_lt (sharing.degree + tau) sharing.agree
  Some tau
tau_in Xor sharing m = do
  is_none (first_of (codes "tau") m)
  Some 0

-- a comma
abbrev pub is_comma : ℕ → Bool
is_comma c = c == 44

-- the texts of further blocks, which commas split: none where none is given
abbrev pub more_texts : Option Text → List Text
more_texts None = []
more_texts (Some text) = slice_split is_comma text

-- the rows that texts name, each of so many
unfoldable pub rows_named : ℕ → List Text → Option (List ℕ)
rows_named rows [] = Some []
rows_named rows (text ∷ texts) = do
  row ← row_named rows text
  others ← rows_named rows texts
  Some (row ∷ others)

-- a first row, and behind it those that texts name
unfoldable pub rows_behind : ℕ → ℕ → List Text → Option (List ℕ)
rows_behind first rows texts = option_map (λ others. first ∷ others) (rows_named rows texts)

-- blocks that may be asked for at once, of so many bytes each
unfoldable pub at_once : ℕ → List ℕ → Bool
at_once width blocks = nat_le (length blocks) MOST_BLOCKS && nat_le (length blocks * width) MOST_WIDTH

-- the blocks: that of `--block`, and then those of `--more`
unfoldable pub blocks_in : Sizes → List Row → Option (List ℕ)
blocks_in sizes m = do
  block ← block_in sizes.rows m
  blocks ← rows_behind block sizes.rows (more_texts (first_of (codes "more") m))
  at_once sizes.width blocks
  Some blocks

-- `fetch` with its values, each in its range
unfoldable pub fetch_of : List Row → Option Asked
fetch_of m = do
  (sizes : Sizes) ← sizes_in m
  blocks ← blocks_in sizes m
  scheme ← scheme_in m
  addresses ← addresses_in m
  (sharing : Sharing) ← fetch_sharing_in scheme (length addresses) m
  tau ← tau_in scheme sharing m
  Some (Fetch (number_of scheme) sizes.rows sizes.width blocks sharing.degree tau sharing.agree
      (coins_in m) (first_of (codes "record") m) (flag_in (codes "report") m) addresses)

-- these are blocks that may be asked for at once: some, each one of r rows, and all of them of few bytes
pub record AreAtOnce (r s : ℕ) (blocks : List ℕ) : Type 0 where
  pub some : 1 ≤ length blocks
  pub few : length blocks ≤ MOST_BLOCKS
  pub each : All (λ b. b < r) blocks
  pub few_bytes : length blocks * s ≤ MOST_WIDTH

-- the degree of the answers to queries of one degree, where the database is shared in the degree tau, and their agreement
abbrev pub shared_in : ℕ → Sharing → Sharing
shared_in tau sharing = record sharing { degree = sharing.degree + tau }

-- the degree of the queries and tau of the shares, and the agreement, suit n servers and the sizes of the database: the degree
-- of the queries hides the block, and with tau it and the agreement are those of a session; in the XOR scheme the database
-- isn't shared
pub record IsSharedFetch (scheme : ℕ) (sizes : Sizes) (sharing : Sharing) (tau n : ℕ) : Type 0 where
  pub numbers : FitsSession scheme (shared_in tau sharing) n sizes
  pub private : 1 ≤ sharing.degree
  pub held_whole : scheme ≡ XOR → tau ≡ 0

-- the values of `fetch` with n addresses are those of a session, and the blocks may be asked for at once
pub record IsFetch (scheme : ℕ) (sizes : Sizes) (blocks : List ℕ) (sharing : Sharing) (tau n : ℕ) : Type 0 where
  pub shared : IsSharedFetch scheme sizes sharing tau n
  pub together : AreAtOnce sizes.rows sizes.width blocks

-- where a fetch is asked for, its values are in their ranges
abbrev pub FetchInRange : Asked → Type 0
FetchInRange (Fetch scheme r s blocks t tau h coins keep report addresses) =
    IsFetch scheme (sizes_of r s) blocks (sharing_of t h) tau (length addresses)
FetchInRange asked = Unit {0}
