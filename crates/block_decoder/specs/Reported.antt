-- The report beside a verdict.
use Rattle.std.specs.Prelude.{◌≡◌, ℕ, ◌≤◌, Bool, if◌then◌else◌, List, length, Option, Some, None}
use Rattle.std.specs.Cmp.Lexicographic.{slice_cmp}
use Rattle.std.specs.List.Sorted.{IsStrictlySortedBy}
use Rattle.std.specs.Ordering.{nat_cmp}
use Rattle.wire_frames.specs.declared.scheme.TheConstants.{SHAMIR, XOR}
use Rattle.wire_frames.specs.Answer.{block_len, Answer, answers}
use Rattle.wire_frames.specs.Session.{Transcript}
use Rattle.block_decoder.specs.Report.{Agreement, IsReport, HasBlocks}
use Rattle.block_decoder.specs.declared.verdict.Verdict.{Verdict}
use Rattle.block_decoder.specs.declared.verdict.Verdict.TheVariants.{Listed, TooFew, TooWeak, TooCostly}

-- beside a listing it has every agreement, on blocks that are those of the listing; beside another verdict there is none
abbrev pub IsReportBeside : List Answer → ℕ → ℕ → ℕ → Verdict → Option (List Agreement) → Type 0
IsReportBeside all width t h (Listed blocks) (Some agreements) =
    IsReport all width t h agreements × HasBlocks blocks agreements
IsReportBeside all width t h (Listed blocks) None = ⊥
IsReportBeside all width t h (TooFew k agree) report = report ≡ None
IsReportBeside all width t h (TooWeak k degree agree) report = report ≡ None
IsReportBeside all width t h (TooCostly equations) report = report ≡ None

-- the verdict lists the blocks of these agreements, each once and ascending
abbrev pub ListsBlocksOf : List Agreement → Verdict → Type 0
ListsBlocksOf agreements (Listed blocks) = IsStrictlySortedBy (slice_cmp nat_cmp) blocks × HasBlocks blocks agreements
ListsBlocksOf agreements (TooFew k agree) = ⊥
ListsBlocksOf agreements (TooWeak k degree agree) = ⊥
ListsBlocksOf agreements (TooCostly equations) = ⊥

-- the listing of some agreements, and these themselves, where they are wanted
abbrev pub IsListedFrom : Bool → List Agreement → Verdict × Option (List Agreement) → Type 0
IsListedFrom wanted agreements found =
    ListsBlocksOf agreements found.0 × (found.1 ≡ if wanted then Some agreements else None)

-- who agrees among the usable answers of a session
abbrev pub IsSessionReport : Transcript → List Agreement → Type 0
IsSessionReport session =
    IsReport (answers session) (block_len session.params) session.params.t session.params.h

-- the report on a session beside its verdict: in Shamir's scheme that of its usable answers, and in the XOR scheme none
pub record IsReportOn (session : Transcript) (verdict : Verdict) (report : Option (List Agreement)) : Type 0 where
  pub shamir : session.params.scheme ≡ SHAMIR
      → IsReportBeside (answers session) (block_len session.params) session.params.t session.params.h verdict report
  pub xor : session.params.scheme ≡ XOR → report ≡ None

-- a report has so many agreements at most
abbrev pub ReportsNoMoreThan : ℕ → Option (List Agreement) → Type 0
ReportsNoMoreThan most report = (agreements : List Agreement) → report ≡ Some agreements → length agreements ≤ most
