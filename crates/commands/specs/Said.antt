-- What is said of a session: its verdict, and where that is wanted, who agrees and who lied.
use Rattle.std.specs.Prelude.{◌≡◌, ◌⊎◌, ℕ, Bool, true, false, List, ◌++◌, Option, Some, None}
use Rattle.port_trait.specs.World.{World}
use Rattle.port_trait.specs.Number.{OUTPUT}
use Rattle.port_trait.specs.Moves.{gave}
use Rattle.port_trait.specs.Whole.{FailsWithin}
use Rattle.wire_frames.specs.Session.{Transcript}
use Rattle.block_decoder.specs.Report.{Agreement}
use Rattle.block_decoder.specs.Reported.{IsReportOn, IsSessionReport}
use Rattle.block_decoder.specs.Text.{report_text, text}
use Rattle.block_decoder.specs.declared.verdict.Verdict.{Verdict}
use Rattle.commands.specs.Table.{status_of}
use Rattle.commands.specs.declared.status.Status.{Status}
use Rattle.commands.specs.declared.status.Status.TheVariants.{WriteFault}

-- the report beside the verdict, where one is wanted, and else none
abbrev pub IsBeside : Bool → Transcript → Verdict → Option (List Agreement) → Type 0
IsBeside true session verdict report = IsReportOn session verdict report
IsBeside false session verdict report = report ≡ None

-- the text of the verdict, and behind it, where there is a report, the text of that
abbrev pub whole_text : Transcript → Verdict → Option (List Agreement) → List ℕ
whole_text session verdict None = text verdict
whole_text session verdict (Some agreements) = text verdict ++ report_text session agreements

-- what report there is says who agrees among the usable answers of this session
abbrev pub IsReportOf : Transcript → Option (List Agreement) → Type 0
IsReportOf session report = (agreements : List Agreement) → report ≡ Some agreements → IsSessionReport session agreements

-- these words are written whole, and the status is the verdict's; or a call on Output failed
abbrev pub Tells : List ℕ → Verdict → Status → World → World → Type 0
Tells words verdict status old new = ((status ≡ status_of verdict) × (new.at OUTPUT ≡ gave words (old.at OUTPUT)))
    ⊎ ((status ≡ WriteFault) × FailsWithin OUTPUT words old new)

-- the text of the verdict is written whole, and that of the report behind it; and the status is the verdict's own
pub record ToldWhole (session : Transcript) (verdict : Verdict) (report : Option (List Agreement)) (status : Status)
    (old new : World) : Type 0 where
  pub status_is : status ≡ status_of verdict
  pub written : new.at OUTPUT ≡ gave (whole_text session verdict report) (old.at OUTPUT)
