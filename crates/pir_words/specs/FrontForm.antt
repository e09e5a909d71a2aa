-- The form of `front`.
use Rattle.std.specs.Prelude.{ℕ, ◌≡◌, ◌≤◌, ◌==◌, ◌&&◌, List, length, Option, Some, codes, nat_le, true}
use Rattle.std.specs.Int.{div_ceil}
use Rattle.clap.specs.Words.{App, Row, Text, all_of, first_of, new_app, with_rule}
use Rattle.quantity_limits.specs.Shape.{IsShape}
use Rattle.quantity_limits.specs.declared.TheConstants.{MOST_GUESTS}
use Rattle.pir_words.specs.Chain.{◌>>=◌, ◌>>◌}
use Rattle.pir_words.specs.Command.{operands_rule, with_option}
use Rattle.pir_words.specs.Numbers.{limited}
use Rattle.pir_words.specs.Ranges.{sizes_in}
use Rattle.quantity_limits.specs.declared.TheConstants.{MOST_SHARDS}
use Rattle.pir_words.specs.declared.ranges.Sizes.{Sizes}
use Rattle.pir_words.specs.declared.asked.Asked.{Asked}
use Rattle.pir_words.specs.declared.asked.Asked.TheVariants.{Front}

-- `front --rows R --width S --shard K --conns N --listen ADDR ADDRESS..`
abbrev pub front_app : App
front_app =
    let rows = with_option (new_app (codes "front")) (codes "rows") true in
    let width = with_option rows (codes "width") true in
    let shard = with_option width (codes "shard") true in
    let conns = with_option shard (codes "conns") true in
    let listen = with_option conns (codes "listen") true in
    with_rule listen (operands_rule (codes "addresses"))

-- the addresses: one for each shard of the rows, of which a front asks no more than so many
unfoldable pub shard_addresses_in : ℕ → ℕ → List Row → Option (List Text)
shard_addresses_in rows shard m = do
  addresses ← all_of (codes "addresses") m
  (length addresses == div_ceil rows shard) && nat_le (length addresses) MOST_SHARDS
  Some addresses

-- `front` with its values, each in its range
unfoldable pub front_of : List Row → Option Asked
front_of m = do
  (sizes : Sizes) ← sizes_in m
  shard ← limited (codes "shard") 1 sizes.rows m
  conns ← limited (codes "conns") 1 MOST_GUESTS m
  addresses ← shard_addresses_in sizes.rows shard m
  listen ← first_of (codes "listen") m
  Some (Front sizes.rows sizes.width shard conns listen addresses)

-- the ranges of the values of `front`: r rows of s bytes, of which k lie on each shard but the last, and n addresses
pub record IsFront (r s k conns n : ℕ) : Type 0 where
  pub shape : IsShape r s
  pub some_on_each : 1 ≤ k
  pub within : k ≤ r
  pub one_for_each : n ≡ div_ceil r k
  pub few_shards : n ≤ MOST_SHARDS
  pub some_conns : 1 ≤ conns
  pub few_conns : conns ≤ MOST_GUESTS

-- where a front is asked for, its values are in their ranges
abbrev pub FrontInRange : Asked → Type 0
FrontInRange (Front r s k conns listen addresses) = IsFront r s k conns (length addresses)
FrontInRange asked = Unit {0}
