-- What is said of a session is the text of one verdict and of one report.
use Rattle.std.proofs.Common.{◌≡◌, ◌∙◌, ◌⊎◌, Bool, true, false, List, sym}
use Rattle.std.specs.Prelude.{Option}
use Rattle.wire_frames.specs.declared.scheme.TheConstants.{SHAMIR, XOR}
use Rattle.wire_frames.specs.Session.{Transcript}
use Rattle.block_decoder.specs.Report.{Agreement}
use Rattle.block_decoder.specs.declared.verdict.Verdict.{Verdict}
use Rattle.block_decoder.proofs.OneReport.{one_report, session_report}
use Rattle.commands.specs.Said.{IsBeside, IsReportOf}

module _ (session : Transcript) (verdict : Verdict) (scheme : (session.params.scheme ≡ SHAMIR) ⊎ (session.params.scheme ≡ XOR)) where
  -- what stands beside a verdict is the report on its session
  pub report_of : (wanted : Bool) (report : Option (List Agreement)) → IsBeside wanted session verdict report → IsReportOf session report
  report_of true report beside = λ agreements same. session_report session verdict scheme report agreements beside same
  report_of false report beside = λ agreements same. absurd cc

  -- and nothing else does
  pub same_beside : (wanted : Bool) (one other : Option (List Agreement)) → IsBeside wanted session verdict one → IsBeside wanted session verdict other → one ≡ other
  same_beside true one other p q = one_report session verdict scheme one other p q
  same_beside false one other p q = p ∙ sym q
