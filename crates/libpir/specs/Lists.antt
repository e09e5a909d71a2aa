-- What calls answer of keys in a list.
use Rattle.std.specs.Prelude.{ℕ, ℤ, ◌≡◌, pos, List, Option, Some, None, Result, Ok, Err}
use Rattle.list_calls.specs.declared.numbers.ListNumbers.{ListNumbers}
use Rattle.list_calls.specs.declared.find.KeyFound.{KeyFound}
use Rattle.list_calls.specs.declared.find.KeyFound.TheVariants.{Broken, Absent, Present}
use Rattle.list_calls.specs.declared.find.KeyRefusal.{KeyRefusal}
use Rattle.list_calls.specs.declared.find.KeyRefusal.TheVariants.{Numbers, Room}
use Rattle.list_calls.specs.Find.{FindsKey, LookUp, SaysRow}
use Rattle.libpir.specs.declared.code.Code.{Code}
use Rattle.libpir.specs.declared.code.Code.TheVariants.{Done, BrokenRow, NotInList, SmallRoom, BadList}
use Rattle.libpir.specs.Codes.{number_of}

-- the row of a key, or that there is none, as a number
abbrev pub row_number : Option ℕ → ℤ
row_number (Some row) = pos row
row_number None = number_of BadList

-- the row that a key belongs to is told, or that the numbers are those of no list
pub record TellsRow (n : ListNumbers) (salt key : List ℕ) (number : ℤ) : Type 0 where
  pub row : Option ℕ
  pub is : SaysRow n salt key row
  pub told : number ≡ row_number row

-- the code of what is said of a key
abbrev pub found_code : Result KeyFound KeyRefusal → Code
found_code (Ok (Present used)) = Done
found_code (Ok Absent) = NotInList
found_code (Ok Broken) = BrokenRow
found_code (Err Numbers) = BadList
found_code (Err (Room wanted)) = SmallRoom

-- the length that the caller is told: that of the value
abbrev pub found_length : ℕ → Result KeyFound KeyRefusal → ℕ
found_length before (Ok (Present used)) = used
found_length before (Ok Absent) = before
found_length before (Ok Broken) = before
found_length before (Err Numbers) = before
found_length before (Err (Room wanted)) = wanted

-- it is said what the row of a key says of it, and the code and the length say so
pub record AnswersFind (q : LookUp) (old new : List ℕ) (before after : ℕ) (code : ℤ) : Type 0 where
  pub found : Result KeyFound KeyRefusal
  pub is : FindsKey q old new found
  pub told : code ≡ number_of (found_code found)
  pub length_is : after ≡ found_length before found
