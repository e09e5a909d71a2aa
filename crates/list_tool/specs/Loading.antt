-- Loading the catalog in a file.
use Rattle.std.specs.Prelude.{◌≡◌, ℕ, ◌+◌, ◌<◌, ◌≤◌, List, length, IfSome, Result, Ok, Err}
use Rattle.port_trait.specs.World.{Cell, World}
use Rattle.port_trait.specs.Moves.{Hands, named, took}
use Rattle.port_trait.specs.Whole.{FailsShort, IsPrefix}
use Rattle.port_trait.specs.Files.{Unread}
use Rattle.port_trait.specs.declared.port.Failed.{Failed}
use Rattle.list_catalog.specs.Facts.{Facts}
use Rattle.list_catalog.specs.Reading.{Reads}
use Rattle.list_catalog.specs.declared.TheConstants.{MOST_CATALOG}
use Rattle.list_tool.specs.declared.fault.LoadFault.{LoadFault}
use Rattle.list_tool.specs.declared.fault.LoadFault.TheVariants.{Memory, ReadFault, Refused}

-- a port was read: this is its file, or as much of a longer one as is read
pub record HasText (text : List ℕ) (old new : Cell) : Type 0 where
  pub cell : new ≡ took (length text) old
  pub prefix : IfSome old.holds (IsPrefix text)
  pub all : length text ≤ MOST_CATALOG → IfSome old.holds (λ held. text ≡ held)

-- so many bytes came into the start of the room: all that there were, or as many as there was room for
pub record Came (p count : ℕ) (before after : List ℕ) (old new : World) : Type 0 where
  pub hands : Hands p count before after old new
  pub all : count < length before → IfSome (old.at p).holds (λ held. length held ≡ count)

-- what reading a port into the room answers
abbrev pub FillsText : ℕ → Result ℕ Failed → List ℕ → List ℕ → World → World → Type 0
FillsText p (Ok count) before after old new = Came p count before after old new
FillsText p (Err failed) before after old new = FailsShort p (length before) old new

-- the catalog that a text is, or why it is none
abbrev pub ReadsText : List ℕ → Result Facts LoadFault → Type 0
ReadsText text (Ok facts) = Reads text (Ok facts)
ReadsText text (Err (Refused fault)) = Reads text (Err fault)
ReadsText text (Err ReadFault) = ⊥
ReadsText text (Err Memory) = Unit {0}

-- the catalog in the file of a port that is open, or why there is none
abbrev pub LoadsOpened : ℕ → Result Facts LoadFault → World → World → Type 0
LoadsOpened p (Ok facts) old new = (text : List ℕ) × HasText text (old.at p) (new.at p) × Reads text (Ok facts)
LoadsOpened p (Err (Refused fault)) old new = (text : List ℕ) × HasText text (old.at p) (new.at p) × Reads text (Err fault)
LoadsOpened p (Err ReadFault) old new = FailsShort p (MOST_CATALOG + 1) old new
LoadsOpened p (Err Memory) old new = Unit {0}

-- the catalog in the file of this name, or why there is none
abbrev pub LoadsCatalog : ℕ → List ℕ → Result Facts LoadFault → World → World → Type 0
LoadsCatalog p name (Ok facts) old new =
    (text : List ℕ) × HasText text (named name (old.at p)) (new.at p) × Reads text (Ok facts)
LoadsCatalog p name (Err (Refused fault)) old new =
    (text : List ℕ) × HasText text (named name (old.at p)) (new.at p) × Reads text (Err fault)
LoadsCatalog p name (Err ReadFault) old new = Unread p name (MOST_CATALOG + 1) old new
LoadsCatalog p name (Err Memory) old new = Unit {0}
