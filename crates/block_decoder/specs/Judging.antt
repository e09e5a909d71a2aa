-- What is decided and judged with a report that may be wanted, and how many steps it takes.
use Rattle.std.specs.Prelude.{◌≡◌, ℕ, ◌+◌, ◌≤◌, Bool, true, false, List, length, Option, None, Result, IfOk}
use Rattle.wire_frames.specs.declared.scheme.TheConstants.{SHAMIR, XOR}
use Rattle.wire_frames.specs.Answer.{answers, block_len}
use Rattle.wire_frames.specs.Session.{Transcript}
use Rattle.block_decoder.specs.Decoding.{most_columns_of, most_nodes_of, Counters}
use Rattle.block_decoder.specs.Numbers.{bound_of, most_columns, most_nodes}
use Rattle.block_decoder.specs.Report.{Agreement}
use Rattle.block_decoder.specs.Reported.{IsReportBeside, IsReportOn, ReportsNoMoreThan}
use Rattle.block_decoder.specs.Verdict.{IsDecided, IsUnlisted, IsVerdict, ListsNoMoreThan, least_coefficients, least_columns}
use Rattle.block_decoder.specs.declared.decoding.Decoding.{Decoding}
use Rattle.block_decoder.specs.declared.verdict.Verdict.{Verdict}

-- a verdict, and the report beside it where there is one
abbrev pub Judgement : Type 0
Judgement = Verdict × Option (List Agreement)

-- ---- a decoding

-- how many blocks can be agreed on
abbrev pub most_blocks_of : Decoding → ℕ
most_blocks_of decoding = bound_of (length decoding.answers) decoding.degree decoding.agreement

-- the verdict on answers, and the report beside it where that is wanted
pub record DecidesWith (wanted : Bool) (decoding : Decoding) {E : Type 0} (result : Result Judgement E)
    (before after : Counters) : Type 0 where
  pub verdict : IfOk result (λ found.
      IsDecided decoding.answers decoding.width decoding.degree decoding.agreement found.0)
  pub report : IfOk result (λ found. wanted ≡ true
      → IsReportBeside decoding.answers decoding.width decoding.degree decoding.agreement found.0 found.1)
  pub unwanted : IfOk result (λ found. wanted ≡ false → found.1 ≡ None)
  pub cols : after.cols ≤ before.cols + most_columns_of decoding
  pub nodes : after.nodes ≤ before.nodes + most_nodes_of decoding
  pub least : before.cols ≤ after.cols
  pub least_nodes : before.nodes ≤ after.nodes
  pub listed : IfOk result (λ found. before.cols + least_columns decoding.width found.0 ≤ after.cols)
  pub several : IfOk result (λ found. before.nodes + least_coefficients decoding.degree found.0 ≤ after.nodes)
  pub unlisted : IsUnlisted (length decoding.answers) decoding.degree decoding.agreement
      → (after.cols ≡ before.cols) × (after.nodes ≡ before.nodes)
  pub few : IfOk result (λ found. ListsNoMoreThan (most_blocks_of decoding) found.0)
  pub few_agree : IfOk result (λ found. ReportsNoMoreThan (most_blocks_of decoding) found.1)

-- ---- a session

-- how many columns are decoded at most in judging it
abbrev pub session_columns : Transcript → ℕ
session_columns session =
    most_columns (length (answers session)) session.params.t session.params.h (block_len session.params)

-- how many coefficients are fixed at most in all of them
abbrev pub session_nodes : Transcript → ℕ
session_nodes session =
    most_nodes (length (answers session)) session.params.t session.params.h (block_len session.params)

-- how many blocks its answers can agree on in Shamir's scheme
abbrev pub session_blocks : Transcript → ℕ
session_blocks session = bound_of (length (answers session)) session.params.t session.params.h

-- how many of its columns a verdict takes at least in that scheme
abbrev pub session_least : Transcript → Verdict → ℕ
session_least session = least_columns (block_len session.params)

-- none of its columns is decoded
abbrev pub IsUnlistedSession : Transcript → Type 0
IsUnlistedSession session = IsUnlisted (length (answers session)) session.params.t session.params.h

-- a verdict lists no more blocks than that
abbrev pub ListsFew : Transcript → Verdict → Type 0
ListsFew session = ListsNoMoreThan (session_blocks session)

-- a report tells of no more blocks than that
abbrev pub ReportsFew : Transcript → Option (List Agreement) → Type 0
ReportsFew session = ReportsNoMoreThan (session_blocks session)

-- it is of Shamir's scheme
abbrev pub IsShamirSession : Transcript → Type 0
IsShamirSession session = session.params.scheme ≡ SHAMIR

-- it is of the XOR scheme
abbrev pub IsXorSession : Transcript → Type 0
IsXorSession session = session.params.scheme ≡ XOR

-- in that scheme no fewer coefficients are fixed than a listing of several blocks takes
abbrev pub FixesListed : Transcript → ℕ → ℕ → Verdict → Type 0
FixesListed session before after verdict =
    IsShamirSession session → before + least_coefficients session.params.t verdict ≤ after

-- the verdict on a session, and the report beside it where that is wanted
pub record JudgesWith (wanted : Bool) (session : Transcript) {E : Type 0} (result : Result Judgement E)
    (before after : Counters) : Type 0 where
  pub verdict : IfOk result (λ found. IsVerdict session found.0)
  pub report : IfOk result (λ found. wanted ≡ true → IsReportOn session found.0 found.1)
  pub unwanted : IfOk result (λ found. wanted ≡ false → found.1 ≡ None)
  pub cols : after.cols ≤ before.cols + session_columns session
  pub nodes : after.nodes ≤ before.nodes + session_nodes session
  pub least : before.cols ≤ after.cols
  pub least_nodes : before.nodes ≤ after.nodes
  pub listed : IsShamirSession session → IfOk result (λ found. before.cols + session_least session found.0 ≤ after.cols)
  pub several : IfOk result (λ found. FixesListed session before.nodes after.nodes found.0)
  pub unlisted : IsUnlistedSession session → (after.cols ≡ before.cols) × (after.nodes ≡ before.nodes)
  pub few : IsShamirSession session → IfOk result (λ found. ListsFew session found.0)
  pub few_agree : IsShamirSession session → IfOk result (λ found. ReportsFew session found.1)
  pub xor : IsXorSession session → (after.cols ≡ before.cols) × (after.nodes ≡ before.nodes)
