-- The form of `selfrun`.
use Rattle.std.specs.Prelude.{ℕ, ◌^◌, ◌<◌, ◌≤◌, List, Option, Some, codes, true, false}
use Rattle.clap.specs.Words.{App, Row, new_app}
use Rattle.pir_words.specs.Chain.{◌>>=◌}
use Rattle.pir_words.specs.Command.{with_flag, with_option}
use Rattle.pir_words.specs.Numbers.{flag_in, limited, number_in}
use Rattle.pir_words.specs.Ranges.{FitsSession, servers_in, sharing_in, sharing_of, sizes_in, sizes_of, workers_in}
use Rattle.quantity_limits.specs.declared.TheConstants.{MOST_WORKERS}
use Rattle.wire_frames.specs.declared.scheme.TheConstants.{SHAMIR}
use Rattle.pir_words.specs.declared.ranges.Sizes.{Sizes}
use Rattle.pir_words.specs.declared.ranges.Sharing.{Sharing}
use Rattle.pir_words.specs.declared.asked.Asked.{Asked}
use Rattle.pir_words.specs.declared.asked.Asked.TheVariants.{Selfrun}

-- `selfrun --seed N --rows R --width S --servers N --degree T --agree H --liars V`
abbrev pub selfrun_app : App
selfrun_app =
    let seed = with_option (new_app (codes "selfrun")) (codes "seed") true in
    let rows = with_option seed (codes "rows") true in
    let width = with_option rows (codes "width") true in
    let servers = with_option width (codes "servers") true in
    let degree = with_option servers (codes "degree") true in
    let agree = with_option degree (codes "agree") true in
    let liars = with_option agree (codes "liars") true in
    let workers = with_option liars (codes "workers") false in
    with_flag workers (codes "slow")

-- `selfrun` with its values, each in its range
unfoldable pub selfrun_of : List Row → Option Asked
selfrun_of m = do
  seed ← number_in (codes "seed") m
  (sizes : Sizes) ← sizes_in m
  servers ← servers_in m
  (sharing : Sharing) ← sharing_in servers m
  liars ← limited (codes "liars") 0 servers m
  workers ← workers_in m
  Some (Selfrun seed sizes.rows sizes.width servers sharing.degree sharing.agree liars workers
      (flag_in (codes "slow") m))

-- the values of `selfrun` are those of a session of n servers in Shamir's scheme, of which some may lie
pub record IsSelfrun (seed : ℕ) (sizes : Sizes) (n : ℕ) (sharing : Sharing) (liars workers : ℕ) : Type 0 where
  pub few_seeds : seed < 2 ^ 64
  pub numbers : FitsSession SHAMIR sharing n sizes
  pub few_liars : liars ≤ n
  pub some_workers : 1 ≤ workers
  pub few_workers : workers ≤ MOST_WORKERS

-- where `selfrun` is asked for, its values are in their ranges
abbrev pub SelfrunInRange : Asked → Type 0
SelfrunInRange (Selfrun seed r s n t h liars workers slow) = IsSelfrun seed (sizes_of r s) n (sharing_of t h) liars workers
SelfrunInRange asked = Unit {0}
