-- That a session has a verdict, a report and an agreed block, and no other.
use Rattle.std.specs.Prelude.{◌≡◌, ℕ, List, Option}
use Rattle.wire_frames.specs.Answer.{Answer}
use Rattle.wire_frames.specs.Session.{Transcript}
use Rattle.block_decoder.specs.Agreed.{Agreed}
use Rattle.block_decoder.specs.Report.{Agreement}
use Rattle.block_decoder.specs.Reported.{IsReportOn}
use Rattle.block_decoder.specs.Verdict.{IsVerdict}
use Rattle.block_decoder.specs.declared.verdict.Verdict.{Verdict}

-- some verdict is that on the session
pub record HasVerdict (session : Transcript) : Type 0 where
  pub verdict : Verdict
  pub is : IsVerdict session verdict

-- any two verdicts on the session are one
abbrev pub HasOneVerdict : Transcript → Type 0
HasOneVerdict session =
    (one other : Verdict) → IsVerdict session one → IsVerdict session other → one ≡ other

-- any two reports beside this verdict on the session are one
abbrev pub HasOneReport : Transcript → Verdict → Type 0
HasOneReport session verdict = (one other : Option (List Agreement)) → IsReportOn session verdict one
    → IsReportOn session verdict other → one ≡ other

-- any two blocks that are agreed on are one
abbrev pub HasOneBlock : List Answer → ℕ → ℕ → ℕ → Type 0
HasOneBlock answers width t h = (one other : List ℕ) → Agreed answers width t h one
    → Agreed answers width t h other → one ≡ other
