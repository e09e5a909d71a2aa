-- What a check of a file does, and what it answers.
use Rattle.std.specs.Prelude.{◌≡◌, ℕ, ◌+◌, Bool, true, false, List, length, Option, IfSome, Result, Ok, Err}
use Rattle.port_trait.specs.World.{Cell, World}
use Rattle.port_trait.specs.Number.{DATABASE}
use Rattle.port_trait.specs.Moves.{named, took}
use Rattle.port_trait.specs.Whole.{FailsShort, IsPrefix, Reads}
use Rattle.port_trait.specs.Files.{Unread}
use Rattle.list_checks.specs.Claims.{size_of}
use Rattle.list_checks.specs.Judging.{Judges}
use Rattle.list_checks.specs.declared.claim.Claim.{Claim}
use Rattle.list_checks.specs.declared.tally.Tally.{Tally}
use Rattle.list_checks.specs.declared.fault.CheckFault.{CheckFault}
use Rattle.list_checks.specs.declared.fault.CheckFault.TheVariants.{NoRow, TooShort, TooLong, OtherHash, OtherEntries, ReadFault, Memory}

-- whether the file was read to its end, by what is answered
abbrev pub is_read_whole : Result Tally CheckFault → Bool
is_read_whole (Ok tally) = true
is_read_whole (Err (NoRow row)) = false
is_read_whole (Err (TooShort bytes)) = true
is_read_whole (Err TooLong) = false
is_read_whole (Err OtherHash) = true
is_read_whole (Err (OtherEntries entries)) = true
is_read_whole (Err ReadFault) = false
is_read_whole (Err Memory) = false

-- the bytes are all that the port held, where it was read to its end
abbrev pub AreAll : Bool → List ℕ → Option (List ℕ) → Type 0
AreAll true file holds = IfSome holds (λ held. file ≡ held)
AreAll false file holds = Unit {0}

-- Database was read, and what was read is judged so
pub record Found (claim : Claim) (result : Result Tally CheckFault) (start now : World) : Type 0 where
  pub file : List ℕ
  pub reads : Reads DATABASE file start now
  pub all : AreAll (is_read_whole result) file (start.at DATABASE).holds
  pub judged : Judges claim result file

-- what checking Database answers, once it is open
abbrev pub Finds : Claim → Result Tally CheckFault → World → World → Type 0
Finds claim (Err ReadFault) start now = FailsShort DATABASE (size_of claim + 1) start now
Finds claim (Err Memory) start now = ⊥
Finds claim result start now = Found claim result start now

-- Database was opened by this name and read, and what was read is judged so
pub record FoundIn (name : List ℕ) (claim : Claim) (result : Result Tally CheckFault) (old new : Cell) : Type 0 where
  pub file : List ℕ
  pub cell : new ≡ took (length file) (named name old)
  pub held : IfSome old.holds (IsPrefix file)
  pub all : AreAll (is_read_whole result) file old.holds
  pub judged : Judges claim result file

-- what checking the file of this name answers. Where a call fails, no more bytes were taken than the rows have; for want of
-- memory nothing is touched
abbrev pub Checks : Claim → List ℕ → Result Tally CheckFault → World → World → Type 0
Checks claim name (Err ReadFault) old new = Unread DATABASE name (size_of claim + 1) old new
Checks claim name (Err Memory) old new = new ≡ old
Checks claim name result old new = FoundIn name claim result (old.at DATABASE) (new.at DATABASE)
