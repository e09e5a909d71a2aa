-- Writing the database of a list, and behind it the catalog.
use Rattle.std.specs.Prelude.{◌≡◌, ◌⊎◌, ℕ, List, [], ◌∷◌, Option, Result, Ok, Err}
use Rattle.port_trait.specs.World.{World}
use Rattle.port_trait.specs.Number.{RECORD}
use Rattle.port_trait.specs.Moves.{gave, named}
use Rattle.port_trait.specs.Files.{Unwritten}
use Rattle.port_trait.specs.Touched.{One, TouchesOnly}
use Rattle.list_builds.specs.CatalogText.{CutsText, GivesText, catalog_port}
use Rattle.list_builds.specs.CatalogOf.{text_in}
use Rattle.list_builds.specs.Laid.{Laid, bytes_in}
use Rattle.list_builds.specs.declared.fault.BuildFault.{BuildFault}
use Rattle.list_builds.specs.declared.fault.BuildFault.TheVariants.{CatalogFault, DatabaseFault, Memory}

-- the file of the database took the whole table
abbrev pub GivesTable : List ℕ → Laid → World → World → Type 0
GivesTable name laid old new = new.at RECORD ≡ gave (bytes_in laid) (named name (old.at RECORD))

-- the catalog was left alone
abbrev pub LeavesCatalog : Option (List ℕ) → World → World → Type 0
LeavesCatalog name old new = new.at (catalog_port name) ≡ old.at (catalog_port name)

-- what writing the database and behind it the catalog answers
abbrev pub WritesList : List ℕ → Option (List ℕ) → Laid → Result (Unit {0}) BuildFault → World → World → Type 0
WritesList database catalog laid (Ok _) old new = GivesTable database laid old new × GivesText catalog (text_in laid) old new
WritesList database catalog laid (Err CatalogFault) old new = GivesTable database laid old new × CutsText catalog (text_in laid) old new
WritesList database catalog laid (Err DatabaseFault) old new = Unwritten RECORD database (bytes_in laid) old new × LeavesCatalog catalog old new
WritesList database catalog laid (Err Memory) old new =
    ((new.at RECORD ≡ old.at RECORD) ⊎ GivesTable database laid old new) × LeavesCatalog catalog old new
WritesList database catalog laid (Err fault) old new = ⊥

-- Record and the catalog's port alone are touched
abbrev pub TouchesWritten : Option (List ℕ) → World → World → Type 0
TouchesWritten catalog old new = TouchesOnly (One RECORD ∷ One (catalog_port catalog) ∷ []) old new
