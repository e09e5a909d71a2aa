-- What building a list does to the outside, by what it answers.
use Rattle.std.specs.Prelude.{◌≡◌, ◌⊎◌, ℕ, List, [], ◌∷◌, length, All, Result, Ok, Err}
use Rattle.port_trait.specs.World.{World}
use Rattle.port_trait.specs.Number.{COINS, INPUT, RECORD}
use Rattle.port_trait.specs.Moves.{Touches}
use Rattle.port_trait.specs.Touched.{One, TouchesOnly}
use Rattle.key_table.specs.Entry.{IsPair}
use Rattle.list_builds.specs.CatalogText.{catalog_port}
use Rattle.list_builds.specs.Gathering.{Gathered}
use Rattle.list_builds.specs.Laid.{Laid}
use Rattle.list_builds.specs.Layout.{IsLaidOut, LaysOut, most_for}
use Rattle.list_builds.specs.Listed.{IsListed, ReadsList}
use Rattle.list_builds.specs.Order.{Order, terms_of}
use Rattle.list_builds.specs.Salt.{LacksSalt, Salted, Unsalted}
use Rattle.list_builds.specs.Writing.{WritesList}
use Rattle.list_builds.specs.declared.fault.Built.{Built}
use Rattle.list_builds.specs.declared.fault.BuildFault.{BuildFault}
use Rattle.list_builds.specs.declared.fault.BuildFault.TheVariants.{CoinsFault, CoinsEnded, KeysFault, NoLine, Refused, Clash, Unshaped, DatabaseFault, CatalogFault, Memory}

-- Coins and Input alone are touched: no file to write was opened
abbrev pub TouchesRead : World → World → Type 0
TouchesRead old new = TouchesOnly (One COINS ∷ One INPUT ∷ []) old new

-- beside them, Record and the catalog's port
abbrev pub TouchesBuilt : Order → World → World → Type 0
TouchesBuilt o old new = TouchesOnly (One COINS ∷ One INPUT ∷ One RECORD ∷ One (catalog_port o.catalog) ∷ []) old new

-- the salt was taken, and under it the list was gathered
pub record HasList (o : Order) (salt : List ℕ) (list : Gathered) (old new : World) : Type 0 where
  pub salted : Salted o.coins salt old new
  pub listed : IsListed o.keys salt o.digest (terms_of o.values) list (old.at INPUT) (new.at INPUT)

-- the salt was taken, but there is no list
pub record HasNoList (o : Order) (fault : BuildFault) (old new : World) : Type 0 where
  pub salt : List ℕ
  pub salted : Salted o.coins salt old new
  pub reads : ReadsList o.keys salt o.digest (terms_of o.values) (Err fault) old new
  pub others : TouchesRead old new

-- the list was gathered, but it has no table
pub record HasNoTable (o : Order) (fault : BuildFault) (old new : World) : Type 0 where
  pub salt : List ℕ
  pub list : Gathered
  pub has : HasList o salt list old new
  pub lays : LaysOut salt o.values o.rows list (Err fault)
  pub others : TouchesRead old new

-- the list was gathered and laid out, each of its pairs is one of a table, and writing it came to this
pub record WritesOut (o : Order) (laid : Laid) (list : Gathered) (result : Result (Unit {0}) BuildFault) (old new : World) : Type 0 where
  pub has : HasList o laid.salt list old new
  pub is_laid : IsLaidOut laid.salt (most_for o.values list.longest) o.rows list.held laid
  pub pairs : All (IsPair o.digest laid.sorted.most) list.held.pairs
  pub writes : WritesList o.database o.catalog laid result old new

-- its table is in the database's file, and behind it its catalog was written
pub record BuildsAll (o : Order) (built : Built) (old new : World) : Type 0 where
  pub laid : Laid
  pub list : Gathered
  pub written : WritesOut o laid list (Ok tt) old new
  pub entries : built.entries ≡ length laid.sorted.pairs
  pub rows : built.rows ≡ laid.shape.rows
  pub width : built.width ≡ laid.shape.width
  pub returns : built.all_end_with_return ≡ list.returns

-- a part of that was written
pub record BuildsPart (o : Order) (fault : BuildFault) (old new : World) : Type 0 where
  pub laid : Laid
  pub list : Gathered
  pub written : WritesOut o laid list (Err fault) old new

-- what building a list answers. Where memory ran out, the catalog was left alone
abbrev pub Builds : Order → Result Built BuildFault → World → World → Type 0
Builds o (Ok built) old new = BuildsAll o built old new
Builds o (Err CoinsFault) old new = Unsalted o.coins old new × Touches COINS old new
Builds o (Err (CoinsEnded taken)) old new = LacksSalt o.coins taken old new × Touches COINS old new
Builds o (Err KeysFault) old new = HasNoList o KeysFault old new
Builds o (Err NoLine) old new = HasNoList o NoLine old new
Builds o (Err (Refused number fault)) old new = HasNoList o (Refused number fault) old new
Builds o (Err (Clash first second)) old new = HasNoTable o (Clash first second) old new
Builds o (Err (Unshaped fault)) old new = HasNoTable o (Unshaped fault) old new
Builds o (Err DatabaseFault) old new = BuildsPart o DatabaseFault old new
Builds o (Err CatalogFault) old new = BuildsPart o CatalogFault old new
Builds o (Err Memory) old new = TouchesRead old new ⊎ BuildsPart o Memory old new
