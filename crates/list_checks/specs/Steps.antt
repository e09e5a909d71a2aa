-- The steps of a check: a row, all rows, what is behind them, and what all rows came to.
use Rattle.std.specs.Prelude.{◌≡◌, ◌≢◌, ℕ, ◌+◌, ◌*◌, List, [], length, IfSome, Some, Result, Ok, Err}
use Rattle.port_trait.specs.World.{World}
use Rattle.port_trait.specs.Number.{DATABASE}
use Rattle.port_trait.specs.Moves.{Hands}
use Rattle.port_trait.specs.Whole.{Ends, FailsShort, Reads}
use Rattle.sha2.specs.Sha256.{sha256}
use Rattle.sha2.specs.Hashers.{Holds256}
use Rattle.sha2.specs.declared.Sha256.{Sha256}
use Rattle.key_table.specs.Entry.{Pair}
use Rattle.key_table.specs.Looked.{IsNoRow, JudgesRow}
use Rattle.list_checks.specs.Checks.{Finds}
use Rattle.list_checks.specs.Claims.{making_of}
use Rattle.list_checks.specs.Judging.{IsTableFile}
use Rattle.list_checks.specs.Rows.{AreRows, tally_of}
use Rattle.list_checks.specs.declared.claim.Claim.{Claim}
use Rattle.list_checks.specs.declared.tally.Tally.{Tally}
use Rattle.list_checks.specs.declared.checking.Counted.{Counted}
use Rattle.list_checks.specs.declared.fault.CheckFault.{CheckFault}
use Rattle.list_checks.specs.declared.fault.CheckFault.TheVariants.{NoRow, TooShort, TooLong, OtherHash, OtherEntries, ReadFault}

-- row j came into the room, and is a row of the list's table with so many entries, or is none; or Database ended within it,
-- after so many bytes in all; or a call failed
abbrev pub ReadsRow : Claim → ℕ → Result ℕ CheckFault → List ℕ → List ℕ → World → World → Type 0
ReadsRow claim j (Ok count) before after old new =
    Hands DATABASE (length before) before after old new × JudgesRow (making_of claim) j after (Some count)
ReadsRow claim j (Err (NoRow row)) before after old new =
    (row ≡ j) × Hands DATABASE (length before) before after old new × IsNoRow (making_of claim) j after
ReadsRow claim j (Err (TooShort bytes)) before after old new =
    (filled : ℕ) × (bytes ≡ j * claim.width + filled) × Ends DATABASE filled before after old new
ReadsRow claim j (Err ReadFault) before after old new = FailsShort DATABASE (length before) old new
ReadsRow claim j (Err fault) before after old new = ⊥

-- the first j rows were read, are rows of the list's table, were hashed, and this is counted in them
pub record HasChecked (claim : Claim) (j : ℕ) (hasher : Sha256) (tally : Tally) (start now : World) : Type 0 where
  pub file : List ℕ
  pub rows : List (List Pair)
  pub size : length file ≡ j * claim.width
  pub count : length rows ≡ j
  pub are : AreRows claim file rows
  pub reads : Reads DATABASE file start now
  pub hashed : Holds256 hasher file
  pub counted : tally ≡ tally_of rows

-- all rows were read and are rows of the list's table, and this is their SHA-256 and what is counted in them
pub record AllRows (claim : Claim) (counted : Counted) (start now : World) : Type 0 where
  pub file : List ℕ
  pub rows : List (List Pair)
  pub is_table : IsTableFile claim file rows
  pub reads : Reads DATABASE file start now
  pub hash : counted.sha256 ≡ sha256 file
  pub tally : counted.tally ≡ tally_of rows

-- what reading all rows answers
abbrev pub ChecksRows : Claim → Result Counted CheckFault → World → World → Type 0
ChecksRows claim (Ok counted) start now = AllRows claim counted start now
ChecksRows claim (Err fault) start now = Finds claim (Err fault) start now

-- Database is at its end, or one byte more of it was read, or a call failed
abbrev pub EndsHere : Result (Unit {0}) CheckFault → World → World → Type 0
EndsHere (Ok _) old new = (new.at DATABASE ≡ old.at DATABASE) × IfSome (old.at DATABASE).holds (λ held. held ≡ [])
EndsHere (Err TooLong) old new = (before after : List ℕ) × (length after ≡ length before) × Hands DATABASE 1 before after old new
EndsHere (Err ReadFault) old new = FailsShort DATABASE 1 old new
EndsHere (Err fault) old new = ⊥

-- whether what all rows came to is what is said of them
abbrev pub JudgesWhole : Claim → Counted → Result Tally CheckFault → Type 0
JudgesWhole claim counted (Ok tally) =
    (tally ≡ counted.tally) × (counted.sha256 ≡ claim.sha256) × (counted.tally.entries ≡ claim.entries)
JudgesWhole claim counted (Err OtherHash) = counted.sha256 ≢ claim.sha256
JudgesWhole claim counted (Err (OtherEntries entries)) =
    (entries ≡ counted.tally.entries) × (entries ≢ claim.entries) × (counted.sha256 ≡ claim.sha256)
JudgesWhole claim counted (Err fault) = ⊥
