-- The text of a catalog, which is written to its file or to Output.
use Rattle.std.specs.Prelude.{◌≡◌, ℕ, List, Option, None, Some, Result, Ok, Err, option_map}
use Rattle.std.specs.Borrow.{Bor}
use Rattle.port_trait.specs.World.{World}
use Rattle.port_trait.specs.Number.{OUTPUT, share_file}
use Rattle.port_trait.specs.Moves.{gave, named}
use Rattle.port_trait.specs.Whole.{FailsWithin}
use Rattle.port_trait.specs.Files.{Unwritten}
use Rattle.port_trait.specs.Written.{Written}
use Rattle.port_trait.specs.declared.port.Failed.{Failed}

-- the port of the catalog's file
abbrev pub CATALOG : ℕ
CATALOG = share_file 1

-- the name of the catalog's file, if it has one
abbrev pub name_given : Option (Bor (List ℕ)) → Option (List ℕ)
name_given name = option_map (λ n. n.now) name

-- the port that a catalog goes to, by the name of its file, if it has one
abbrev pub catalog_port : Option (List ℕ) → ℕ
catalog_port None = OUTPUT
catalog_port (Some name) = CATALOG

-- the catalog's file took the whole text, or Output did where it has none
abbrev pub GivesText : Option (List ℕ) → List ℕ → World → World → Type 0
GivesText None text old new = new.at OUTPUT ≡ gave text (old.at OUTPUT)
GivesText (Some name) text old new = new.at CATALOG ≡ gave text (named name (old.at CATALOG))

-- it took a proper prefix of it, and then a call failed
abbrev pub CutsText : Option (List ℕ) → List ℕ → World → World → Type 0
CutsText None text old new = FailsWithin OUTPUT text old new
CutsText (Some name) text old new = Unwritten CATALOG name text old new

-- what writing the text to the catalog's file answers
abbrev pub WritesFile : List ℕ → List ℕ → Result (Unit {0}) Failed → World → World → Type 0
WritesFile name text (Ok _) old new = GivesText (Some name) text old new
WritesFile name text (Err _) old new = CutsText (Some name) text old new

-- what writing it there, or to Output where it has no file, answers
abbrev pub WritesText : Option (List ℕ) → List ℕ → Result (Unit {0}) Failed → World → World → Type 0
WritesText None text result old new = Written OUTPUT text result old new
WritesText (Some name) text result old new = WritesFile name text result old new
