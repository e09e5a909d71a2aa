-- The exit code and the line of each status, and the status of each verdict.
use Rattle.std.specs.Prelude.{ℕ, List, [], ◌∷◌, Option, Some, None, codes}
use Rattle.block_decoder.specs.declared.verdict.Verdict.{Verdict}
use Rattle.block_decoder.specs.declared.verdict.Verdict.TheVariants.{Listed as IsListed, TooFew as IsTooFew, TooWeak as IsTooWeak, TooCostly as IsTooCostly}
use Rattle.key_fetches.specs.Listed.{Ended}
use Rattle.commands.specs.declared.status.Status.{Status}
use Rattle.commands.specs.declared.status.Status.TheVariants.{One, Usage, NoBlock, Several, Absent, TooFew, TooWeak, TooCostly, ReadFault, WriteFault, BadInput, DoorFault, ChildFault, Memory}

abbrev pub code_of : Status → ℕ
code_of One = 0
code_of Usage = 2
code_of NoBlock = 3
code_of Several = 4
code_of (TooFew k h) = 5
code_of (TooWeak k t h) = 6
code_of (TooCostly equations) = 7
code_of ReadFault = 8
code_of WriteFault = 9
code_of (BadInput bad) = 10
code_of DoorFault = 11
code_of Memory = 12
code_of ChildFault = 13
code_of Absent = 14

-- what stands on standard error, empty where nothing does
abbrev pub line_of : Status → List ℕ
line_of One = []
line_of Usage = codes "pir: usage"
line_of NoBlock = []
line_of Several = []
line_of (TooFew k h) = []
line_of (TooWeak k t h) = []
line_of (TooCostly equations) = []
line_of ReadFault = codes "pir: read fault"
line_of WriteFault = codes "pir: write fault"
line_of (BadInput bad) = codes "pir: bad input"
line_of DoorFault = codes "pir: door fault"
line_of Memory = codes "pir: no memory"
line_of ChildFault = codes "pir: child fault"
line_of Absent = []

-- by how many blocks are listed
abbrev pub status_of_blocks : List (List ℕ) → Status
status_of_blocks [] = NoBlock
status_of_blocks (block ∷ []) = One
status_of_blocks (block ∷ (more ∷ blocks)) = Several

abbrev pub status_of : Verdict → Status
status_of (IsListed blocks) = status_of_blocks blocks
status_of (IsTooFew k h) = TooFew k h
status_of (IsTooWeak k t h) = TooWeak k t h
status_of (IsTooCostly equations) = TooCostly equations

-- of a look-up, by the verdict that didn't list exactly one block, if there was one, and by the row that was found, if one was
abbrev pub status_by_end : Option Verdict → Option (List ℕ) → Status
status_by_end (Some verdict) found = status_of verdict
status_by_end None (Some row) = One
status_by_end None None = Absent

abbrev pub status_of_end : Ended → Status
status_of_end ended = status_by_end ended.unlisted ended.found
