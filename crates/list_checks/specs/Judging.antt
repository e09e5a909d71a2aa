-- What holds of a file, and the first thing that doesn't.
use Rattle.std.specs.Prelude.{◌≡◌, ◌≢◌, ℕ, ◌+◌, ◌*◌, ◌/◌, ◌<◌, List, length, Result, Ok, Err}
use Rattle.sha2.specs.Sha256.{sha256}
use Rattle.block_matrix.specs.Database.{row_at}
use Rattle.key_table.specs.Entry.{Pair}
use Rattle.key_table.specs.Looked.{IsNoRow}
use Rattle.list_checks.specs.Claims.{making_of, size_of}
use Rattle.list_checks.specs.Rows.{AreRows, HasRows, entries_of, tally_of}
use Rattle.list_checks.specs.declared.claim.Claim.{Claim}
use Rattle.list_checks.specs.declared.tally.Tally.{Tally}
use Rattle.list_checks.specs.declared.fault.CheckFault.{CheckFault}
use Rattle.list_checks.specs.declared.fault.CheckFault.TheVariants.{NoRow, TooShort, TooLong, OtherHash, OtherEntries, ReadFault, Memory}

-- the file has the rows that are said, no more and no less: all are rows of the list's table, with these pairs
pub record IsTableFile (claim : Claim) (file : List ℕ) (rows : List (List Pair)) : Type 0 where
  pub size : length file ≡ size_of claim
  pub count : length rows ≡ claim.rows
  pub are : AreRows claim file rows

-- all that is said of the file holds, and this is counted in its rows
pub record Holds (claim : Claim) (tally : Tally) (file : List ℕ) : Type 0 where
  pub rows : List (List Pair)
  pub is_table : IsTableFile claim file rows
  pub hash : sha256 file ≡ claim.sha256
  pub entries : entries_of rows ≡ claim.entries
  pub counted : tally ≡ tally_of rows

-- row j is the first that is no row of the list's table, and it ends what was read of the file
pub record IsFirstNoRow (claim : Claim) (j : ℕ) (file : List ℕ) : Type 0 where
  pub within : j < claim.rows
  pub size : length file ≡ (j + 1) * claim.width
  pub before : HasRows claim j file
  pub no_row : IsNoRow (making_of claim) j (row_at claim.width file j)

-- the file has so many bytes, fewer than are said, and each whole row that it has is a row of the list's table
pub record IsShort (claim : Claim) (bytes : ℕ) (file : List ℕ) : Type 0 where
  pub size : length file ≡ bytes
  pub fewer : bytes < size_of claim
  pub before : HasRows claim (bytes / claim.width) file

-- the file has the rows that are said, all of them rows of the list's table, and one byte behind them was read
pub record IsLong (claim : Claim) (file : List ℕ) : Type 0 where
  pub size : length file ≡ size_of claim + 1
  pub before : HasRows claim claim.rows file

-- the file has the rows that are said, and another SHA-256
pub record HasOtherHash (claim : Claim) (file : List ℕ) : Type 0 where
  pub rows : List (List Pair)
  pub is_table : IsTableFile claim file rows
  pub other : sha256 file ≢ claim.sha256

-- the file has the rows and the SHA-256 that are said, and its rows have so many entries, which are more or fewer
pub record HasOtherEntries (claim : Claim) (entries : ℕ) (file : List ℕ) : Type 0 where
  pub rows : List (List Pair)
  pub is_table : IsTableFile claim file rows
  pub hash : sha256 file ≡ claim.sha256
  pub is : entries ≡ entries_of rows
  pub other : entries ≢ claim.entries

-- what holds of a file: all that is said, or the first thing that doesn't hold, in the order of the bytes
abbrev pub Judges : Claim → Result Tally CheckFault → List ℕ → Type 0
Judges claim (Ok tally) file = Holds claim tally file
Judges claim (Err (NoRow row)) file = IsFirstNoRow claim row file
Judges claim (Err (TooShort bytes)) file = IsShort claim bytes file
Judges claim (Err TooLong) file = IsLong claim file
Judges claim (Err OtherHash) file = HasOtherHash claim file
Judges claim (Err (OtherEntries entries)) file = HasOtherEntries claim entries file
Judges claim (Err ReadFault) file = ⊥
Judges claim (Err Memory) file = ⊥
