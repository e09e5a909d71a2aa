-- What `check` does to the outside, by what it answers.
use Rattle.std.specs.Prelude.{◌≡◌, ℕ, List, Result, Ok, Err}
use Rattle.port_trait.specs.World.{World}
use Rattle.port_trait.specs.Number.{DATABASE, INPUT, OUTPUT}
use Rattle.port_trait.specs.Moves.{Touches}
use Rattle.port_trait.specs.Written.{Written}
use Rattle.port_trait.specs.declared.port.Failed.{Failed}
use Rattle.list_catalog.specs.Facts.{Facts}
use Rattle.list_checks.specs.Checks.{Checks}
use Rattle.list_checks.specs.declared.claim.Claim.{Claim}
use Rattle.list_checks.specs.declared.tally.Tally.{Tally}
use Rattle.list_checks.specs.declared.fault.CheckFault.{CheckFault}
use Rattle.list_words.specs.declared.asked.Check.{Check}
use Rattle.list_tool.specs.CheckText.{check_text}
use Rattle.list_tool.specs.Loading.{LoadsCatalog}
use Rattle.list_tool.specs.declared.check_command.CheckListFault.{CheckListFault}
use Rattle.list_tool.specs.declared.check_command.CheckListFault.TheVariants.{Catalog, Database, WriteFault, Memory}

-- what a catalog says of the database
abbrev pub claim_for : Facts → Claim
claim_for f = record {
  tag = f.tag;
  size = f.digest;
  most = f.value;
  rows = f.rows;
  width = f.width;
  entries = f.entries;
  sha256 = f.sha256;
}

-- Input was opened by the catalog's name, and its file has this catalog
pub record ReadsCatalog (order : Check) (facts : Facts) (old new : World) : Type 0 where
  pub loads : LoadsCatalog INPUT order.catalog.now (Ok facts) old new
  pub others : Touches INPUT old new

-- the catalog was read, and then the file was checked by what it says
pub record ChecksFile (order : Check) (facts : Facts) (result : Result Tally CheckFault) (old new : World) : Type 0 where
  pub read : World
  pub has_catalog : ReadsCatalog order facts old read
  pub checks : Checks (claim_for facts) order.database.now result read new
  pub others : Touches DATABASE read new

-- what writing the text of it answers. For want of memory nothing is touched
abbrev pub TellsText : Facts → ℕ → List ℕ → Result (Unit {0}) CheckListFault → World → World → Type 0
TellsText facts fullest database (Ok _) old new = Written OUTPUT (check_text facts fullest database) (Ok tt) old new
TellsText facts fullest database (Err WriteFault) old new =
    (failed : Failed) × Written OUTPUT (check_text facts fullest database) (Err failed) old new
TellsText facts fullest database (Err Memory) old new = new ≡ old
TellsText facts fullest database (Err (Catalog fault)) old new = ⊥
TellsText facts fullest database (Err (Database fault)) old new = ⊥

-- all that the catalog says of the file holds, this was counted in it, and then the text was written, or it wasn't
pub record TellsChecked (order : Check) (tally : Tally) (result : Result (Unit {0}) CheckListFault) (old new : World) : Type 0 where
  pub facts : Facts
  pub checked : World
  pub holds : ChecksFile order facts (Ok tally) old checked
  pub tells : TellsText facts tally.fullest order.database.now result checked new
  pub others : Touches OUTPUT checked new

-- what `check` answers, and what it did then
abbrev pub ChecksList : Check → Result Tally CheckListFault → World → World → Type 0
ChecksList order (Ok tally) old new = TellsChecked order tally (Ok tt) old new
ChecksList order (Err (Catalog fault)) old new = LoadsCatalog INPUT order.catalog.now (Err fault) old new × Touches INPUT old new
ChecksList order (Err (Database fault)) old new = (facts : Facts) × ChecksFile order facts (Err fault) old new
ChecksList order (Err WriteFault) old new = (tally : Tally) × TellsChecked order tally (Err WriteFault) old new
ChecksList order (Err Memory) old new = (tally : Tally) × TellsChecked order tally (Err Memory) old new
