-- The bytes of a table: its rows one behind another.
use Rattle.std.specs.Prelude.{◌≡◌, ℕ, List, map, Result, Ok, Err}
use Rattle.std.specs.List.{concat, range_with_len}
use Rattle.port_trait.specs.World.{World}
use Rattle.port_trait.specs.Number.{RECORD}
use Rattle.port_trait.specs.Moves.{gave, named}
use Rattle.port_trait.specs.Whole.{FailsWithin}
use Rattle.port_trait.specs.Files.{Unwritten}
use Rattle.port_trait.specs.declared.port.Failed.{Failed}
use Rattle.sha2.specs.Sha256.{sha256}
use Rattle.key_table.specs.Rows.{Rows, row_bytes}
use Rattle.list_builds.specs.declared.fault.BuildFault.{BuildFault}
use Rattle.list_builds.specs.declared.fault.BuildFault.TheVariants.{DatabaseFault, Memory}

-- the first n rows
unfoldable pub first_rows : (ℕ → List ℕ) → ℕ → List (List ℕ)
first_rows row n = map row (range_with_len 0 n)

-- all rows of a table
abbrev pub table_of : Rows → List (List ℕ)
table_of table = first_rows (row_bytes table) table.rows

-- Record took these rows, and this is their SHA-256; or it took a proper prefix of them until a call failed
abbrev pub WritesRows : List (List ℕ) → Result (List ℕ) Failed → World → World → Type 0
WritesRows rows (Ok hash) old new = (new.at RECORD ≡ gave (concat rows) (old.at RECORD)) × (hash ≡ sha256 (concat rows))
WritesRows rows (Err failed) old new = FailsWithin RECORD (concat rows) old new

-- the file of this name took these rows, and this is their SHA-256; or it can't be written whole, or memory ran out
abbrev pub WritesDatabase : List ℕ → List (List ℕ) → Result (List ℕ) BuildFault → World → World → Type 0
WritesDatabase name rows (Ok hash) old new = (new.at RECORD ≡ gave (concat rows) (named name (old.at RECORD))) × (hash ≡ sha256 (concat rows))
WritesDatabase name rows (Err DatabaseFault) old new = Unwritten RECORD name (concat rows) old new
WritesDatabase name rows (Err Memory) old new = new ≡ old
WritesDatabase name rows (Err fault) old new = ⊥
