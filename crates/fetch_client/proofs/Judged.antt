-- What the verdict on the session of a fetch says of what the servers hold.
use Rattle.std.proofs.Common.{◌≡◌, ◌∙◌, ℕ, ◌+◌, ◌*◌, ◌<◌, ◌≤◌, List, All, length, refl, IfSome, sym, ap, subst, arith}
use Rattle.std.proofs.Math.ListN.{length-drop}
use Rattle.std.specs.Prelude.{Option}
use Rattle.port_trait.specs.World.{World}
use Rattle.wire_frames.specs.declared.session.SessionParams.{SessionParams}
use Rattle.wire_frames.specs.Limits.{IsInRange}
use Rattle.wire_frames.specs.Session.{Fits, Transcript}
use Rattle.wire_frames.specs.Sizes.{answer_len}
use Rattle.block_decoder.specs.Report.{Agreement}
use Rattle.block_decoder.specs.Reported.{IsReportOn}
use Rattle.block_decoder.specs.Verdict.{IsVerdict}
use Rattle.block_decoder.specs.declared.verdict.Verdict.{Verdict}
use Rattle.block_decoder.proofs.UsableAnswers.{bytes_from_fits}
use Rattle.query_rounds.specs.declared.coins.TheConstants.{NUMBER_LEN}
use Rattle.query_rounds.specs.declared.plan.FetchPlan.{FetchPlan}
use Rattle.query_rounds.specs.Gathered.{AsksWith}
use Rattle.query_rounds.specs.Plan.{AreBlocks, IsPlan, params_of, query_coins, query_params, with_degree}
use Rattle.query_rounds.specs.Request.{Request}
use Rattle.query_rounds.specs.Sent.{queries_from, session_number}
use Rattle.query_rounds.proofs.Schemes.{coins_in_session}
use Rattle.fetch_client.specs.Fetched.{Concludes, ConcludesWhole}
use Rattle.fetch_client.proofs.HonestReport.{liars_named_in}
use Rattle.fetch_client.proofs.HonestVerdicts.{finds_honest_block}

module _ (r : Request) (coins : List ℕ) (session : Transcript) (old new : World) (plan : IsPlan r.plan) (are : AreBlocks r.plan r.blocks)
    (asked : AsksWith r coins session old new) (range : IsInRange session.params)
    (fits : All (Fits (answer_len session.params.count session.params.s)) session.records) where
  abbrev p : FetchPlan
  p = r.plan

  abbrev blocks : List ℕ
  blocks = r.blocks

  params : session.params ≡ params_of p (length blocks) (session_number coins)
  params = asked.asked.params

  count : length blocks ≡ session.params.count
  count = sym (ap (λ (q : SessionParams). q.count) params)

  degree : session.params.t ≡ p.t + p.tau
  degree = ap (λ (q : SessionParams). q.t) params

  few : length session.records ≤ session.params.n
  few = let n = ap (λ (q : SessionParams). q.n) params in let whole = asked.asked.whole in omega (arith, n, whole)

  bytes : All (λ r. IfSome r (All (λ b. b < 256))) session.records
  bytes = bytes_from_fits (answer_len session.params.count session.params.s) session.records fits

  -- the coins behind the number of the session are those of the queries
  size : length (queries_from coins) ≡ length blocks * query_coins (with_degree p.t session.params)
  size =
      let own : length (queries_from coins) ≡ length blocks * query_coins (query_params p 1 0) = omega (arith, length-drop NUMBER_LEN coins, asked.tossed.size) in
      own ∙ ap (λ (n : ℕ). length blocks * n) (coins_in_session p (length blocks) (session_number coins) p.t session.params params refl)

  within : All (λ b. b < session.params.r) blocks
  within = subst (λ (r : ℕ). All (λ b. b < r) blocks) (sym (ap (λ (q : SessionParams). q.r) params)) are.each

  -- the verdict has the block of honest servers
  pub concludes : (verdict : Verdict) → IsVerdict session verdict → Concludes r session verdict old new
  concludes verdict is = record {
    coins = coins;
    asked = asked;
    judged = is;
    found = finds_honest_block session p.t p.tau (queries_from coins) blocks verdict count range few bytes size within is degree
        (λ two. plan.held_whole (sym (ap (λ (q : SessionParams). q.scheme) params) ∙ two));
  }

  -- and where there is a report beside it, that names the liars
  pub concludes_whole : (verdict : Verdict) (report : Option (List Agreement)) → IsVerdict session verdict → IsReportOn session verdict report
      → ConcludesWhole r (session, verdict, report) old new
  unfolding concludes
  concludes_whole verdict report judged is = record {
    concludes = concludes verdict judged;
    report = is;
    liars = liars_named_in session p.t p.tau (queries_from coins) blocks verdict report count range few bytes size within degree is;
  }
