-- What building promises of a good list.
use Rattle.std.specs.Prelude.{◌≡◌, ℕ, ◌<◌, ◌≤◌, List, [], ◌∷◌, length, take, All, Option, None, Some, IfErr, Result}
use Rattle.quantity_limits.specs.Shape.{IsShape}
use Rattle.port_trait.specs.World.{World}
use Rattle.port_trait.specs.Number.{COINS, INPUT, RECORD}
use Rattle.port_trait.specs.Moves.{Rose}
use Rattle.key_table.specs.Entry.{Pair}
use Rattle.key_table.specs.KeyList.{AreSorted, IsClear}
use Rattle.key_table.specs.Width.{MakesTable, width_of}
use Rattle.key_table.specs.declared.TheConstants.{MOST_PAIRS}
use Rattle.list_keys.specs.Form.{IsGood}
use Rattle.list_keys.specs.Lines.{lines}
use Rattle.list_builds.specs.CatalogText.{catalog_port}
use Rattle.list_builds.specs.Layout.{most_for}
use Rattle.list_builds.specs.Listing.{longest_of, pairs_of}
use Rattle.list_builds.specs.Order.{Order, form_of}
use Rattle.list_builds.specs.declared.TheConstants.{SALT_SIZE}
use Rattle.list_builds.specs.declared.fault.Built.{Built}
use Rattle.list_builds.specs.declared.fault.BuildFault.{BuildFault}
use Rattle.list_builds.specs.declared.fault.BuildFault.TheVariants.{Memory}

-- no call on one of these ports failed in this run
abbrev pub NoneRose : List ℕ → World → World → Type 0
NoneRose [] old new = Unit {0}
NoneRose (p ∷ ports) old new = (Rose (old.at p).faults (new.at p).faults → ⊥) × NoneRose ports old new

-- the ports that building uses
abbrev pub ports_of : Order → List ℕ
ports_of o = COINS ∷ INPUT ∷ RECORD ∷ catalog_port o.catalog ∷ []

-- the pairs of the lines of a text, with the first of these coins as the salt
abbrev pub pairs_by : Order → List ℕ → List ℕ → List Pair
pairs_by o coins text = pairs_of (take SALT_SIZE coins) o.digest (form_of o.values) (lines text)

-- how many bytes a value of theirs may have
abbrev pub most_by : Order → List ℕ → List ℕ → ℕ
most_by o coins text = most_for o.values (longest_of (pairs_by o coins text))

-- so many rows as are asked for, or else some power of two, make a database of these entries
abbrev pub HasRows : Option ℕ → ℕ → ℕ → List Pair → Type 0
HasRows (Some rows) size most entries = IsShape rows (width_of size most rows entries)
HasRows None size most entries = (rows : ℕ) × MakesTable size most entries rows

-- these coins have a salt, and the text is a good list under it: there are lines, no more than may be, and nothing is
-- wrong with any; no digest stands with two values; and rows make a database of its entries, as they ascend
pub record IsGoodList (o : Order) (coins text : List ℕ) : Type 0 where
  pub salt : SALT_SIZE ≤ length coins
  pub some : 0 < length (lines text)
  pub few : length (lines text) ≤ MOST_PAIRS
  pub good : All (IsGood (form_of o.values)) (lines text)
  pub clear : IsClear (pairs_by o coins text)
  pub entries : List Pair
  pub ascend : AreSorted (most_by o coins text) (pairs_by o coins text) entries
  pub rows : HasRows o.rows o.digest (most_by o coins text) entries

-- where Coins and Input hold a salt and a good list and no call failed, the list is built, or memory ran out
abbrev pub BuildPromise : Order → Result Built BuildFault → World → World → Type 0
BuildPromise o result old new = (coins text : List ℕ) → (old.at COINS).holds ≡ Some coins → (old.at INPUT).holds ≡ Some text
    → IsGoodList o coins text → NoneRose (ports_of o) old new → IfErr result (λ fault. fault ≡ Memory)
