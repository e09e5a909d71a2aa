-- A session has one report at most beside a verdict.
use Rattle.std.proofs.Common.{◌≡◌, ◌⊎◌, ℕ, List, inl, inr, sym, ap, subst, ◌∙◌}
use Rattle.std.specs.Prelude.{Option, Some, None}
use Rattle.wire_frames.specs.declared.scheme.TheConstants.{SHAMIR, XOR}
use Rattle.wire_frames.specs.Answer.{Answer, answers, block_len}
use Rattle.wire_frames.specs.Session.{Transcript}
use Rattle.block_decoder.specs.Report.{Agreement, IsReport}
use Rattle.block_decoder.specs.Reported.{IsReportBeside, IsReportOn, IsSessionReport}
use Rattle.block_decoder.specs.declared.verdict.Verdict.{Verdict}
use Rattle.block_decoder.specs.declared.verdict.Verdict.TheVariants.{Listed, TooFew, TooWeak, TooCostly}
use Rattle.block_decoder.proofs.Members.{same_members}
use Rattle.block_decoder.proofs.Reported.{agreement_cmp_total}

module _ (all : List Answer) (width t h : ℕ) where
  -- the agreements are reported in one way
  same_report : (one other : List Agreement) → IsReport all width t h one → IsReport all width t h other → one ≡ other
  same_report one other p q = same_members agreement_cmp_total one other p.ascending q.ascending (λ a. (
    λ c. (q.exact a).1 ((p.exact a).0 c),
    λ c. (p.exact a).1 ((q.exact a).0 c),
  ))

  -- what stands beside a verdict is a report
  report_beside : (verdict : Verdict) (agreements : List Agreement) → IsReportBeside all width t h verdict (Some agreements) → IsReport all width t h agreements
  report_beside (Listed blocks) agreements beside = beside.0
  report_beside (TooFew k agree) agreements beside = absurd cc
  report_beside (TooWeak k degree agree) agreements beside = absurd cc
  report_beside (TooCostly equations) agreements beside = absurd cc

  -- and there is one such
  one_beside : (verdict : Verdict) (one other : Option (List Agreement)) → IsReportBeside all width t h verdict one → IsReportBeside all width t h verdict other → one ≡ other
  one_beside (Listed blocks) None other p q = absurd p
  one_beside (Listed blocks) (Some one) None p q = absurd q
  one_beside (Listed blocks) (Some one) (Some other) p q = ap Some (same_report one other p.0 q.0)
  one_beside (TooFew k agree) one other p q = p ∙ sym q
  one_beside (TooWeak k degree agree) one other p q = p ∙ sym q
  one_beside (TooCostly equations) one other p q = p ∙ sym q

-- of a session in either scheme
module _ (session : Transcript) (verdict : Verdict) (scheme : (session.params.scheme ≡ SHAMIR) ⊎ (session.params.scheme ≡ XOR)) where
  -- what stands beside its verdict is its report
  pub session_report : (report : Option (List Agreement)) (agreements : List Agreement) → IsReportOn session verdict report → report ≡ Some agreements → IsSessionReport session agreements
  session_report report agreements is same =
      let p = session.params in
      elim scheme [
        | inl shamir ↦
            report_beside (answers session) (block_len p) p.t p.h verdict agreements
            (subst (IsReportBeside (answers session) (block_len p) p.t p.h verdict) same (is.shamir shamir))
        | inr xor ↦ let none = is.xor xor in absurd cc
      ]

  -- and there is one such
  pub one_report : (one other : Option (List Agreement)) → IsReportOn session verdict one → IsReportOn session verdict other → one ≡ other
  one_report one other p q =
      let n = session.params in
      elim scheme [
        | inl shamir ↦ one_beside (answers session) (block_len n) n.t n.h verdict one other (p.shamir shamir) (q.shamir shamir)
        | inr xor ↦ p.xor xor ∙ sym (q.xor xor)
      ]
