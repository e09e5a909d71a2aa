-- The row that enough servers hold is found: what they reply is the frame of an honest server.
use Rattle.std.proofs.Common.{◌≡◌, ◌∙◌, ℕ, ◌+◌, ◌-◌, ◌*◌, ◌<◌, ◌≤◌, Bool, true, List, [], ◌∷◌, length, get_or, slice_index_or, count_by, All, None, sym, ap, subst, arith}
use Rattle.std.specs.List.{range_with_len}
use Rattle.std.proofs.lemmas.List.FromFn.{length-range_with_len, get_or-range_with_len}
use Rattle.std.proofs.lemmas.Slice.Eq.{bytes_eq-Decides}
use Rattle.gf256.specs.Product.{IsMatrix}
use Rattle.wire_frames.specs.declared.session.SessionParams.{SessionParams}
use Rattle.wire_frames.specs.Answer.{answers}
use Rattle.wire_frames.specs.Session.{Transcript}
use Rattle.block_decoder.proofs.Places.{few_places}
use Rattle.block_decoder.proofs.UsableAnswers.{length-answers_from-le}
use Rattle.block_decoder.specs.declared.verdict.Verdict.{Verdict}
use Rattle.block_decoder.specs.declared.verdict.Verdict.TheVariants.{Listed}
use Rattle.query_rounds.specs.declared.plan.FetchPlan.{FetchPlan}
use Rattle.query_rounds.specs.Plan.{AreBlocks, IsPlan, need, params_of, with_degree}
use Rattle.fetch_client.specs.Held.{held_as, held_by}
use Rattle.query_rounds.specs.Sent.{queries_from, session_number}
use Rattle.fetch_client.specs.Honest.{FindsHonestBlock, HonestRecords, blocks_of, honest_frame, is_frame}
use Rattle.fetch_client.proofs.HeldRows.{held_is_matrix}
use Rattle.serve_core.specs.declared.met.Met.TheVariants.{Served}
use Rattle.commands.specs.HeldRow.{EnoughReply, FindsHeldRow, IsReplyAt}
use Rattle.commands.specs.HonestReply.{frame_of}
use Rattle.commands.proofs.HonestReplies.{asks_a_query, replies_honestly}

module _ (p : FetchPlan) (blocks coins : List ℕ) (session : Transcript) (plan : IsPlan p) (are : AreBlocks p blocks) (size : length coins ≡ need p (length blocks)) (bytes : All (λ b. b < 256) coins)
    (params : session.params ≡ params_of p (length blocks) (session_number coins)) (whole : length session.records ≡ p.n) where
  abbrev numbers : SessionParams
  numbers = with_degree p.t session.params

  -- the frame of server i, which holds this matrix and is honest
  abbrev frame : List (List ℕ) → ℕ → List ℕ
  frame held i = honest_frame numbers held (queries_from coins) blocks i

  -- a reply is that frame
  reply_is : (held : List (List ℕ)) (j : ℕ) → IsMatrix held p.r p.s → j < length session.records → IsReplyAt p blocks coins held session j
      → is_frame (frame held (1 + j)) (slice_index_or session.records j None) ≡ true
  reply_is held j is below r =
      let same : r.frame ≡ frame_of p blocks coins held (1 + j) =
      ((replies_honestly p blocks are coins (1 + j) held 1 (asks_a_query p blocks coins (1 + j) plan are size bytes (omega arith) (omega (arith, below, whole, plan.numbers.few_servers))) is Served r.frame).0 r.replied).1 in
      ap (is_frame (frame held (1 + j))) r.recorded
      ∙ (bytes_eq-Decides r.frame (frame held (1 + j))).1 (same ∙ ap (λ (q : SessionParams). honest_frame (with_degree p.t q) held (queries_from coins) blocks (1 + j)) (sym params))

  module _ (matrix : List (List ℕ)) (share_coins : List ℕ) (a : EnoughReply p blocks coins matrix share_coins session) where
    -- what server i holds
    abbrev held : ℕ → List (List ℕ)
    held i = held_by p.tau matrix p.s share_coins i

    -- whether the record of server i is that frame
    abbrev test : ℕ → Bool
    test i = is_frame (frame (held i) i) (slice_index_or session.records (i - 1) None)

    -- a record that is such a reply is that frame
    is_honest : (j : ℕ) → j < length session.records → IsReplyAt p blocks coins (held (1 + j)) session j → test (1 + j) ≡ true
    is_honest j below r =
        let here : 1 + j - 1 ≡ j = omega arith in
        ap (λ i. is_frame (frame (held (1 + j)) (1 + j)) (slice_index_or session.records i None)) here
        ∙ reply_is (held (1 + j)) j (held_is_matrix matrix share_coins p.r p.s a.matrix_is p.tau (1 + j)) below r

    -- so at least h records are such frames
    enough : p.h ≤ count_by test (range_with_len 1 (length session.records))
    enough =
        let all = range_with_len 1 (length session.records) in
        let many = length-range_with_len 1 (length session.records) in
        let few = few_places test all 0 a.places a.ascending
        (λ k d l. let below = a.within k d l in omega (arith, below, many))
        (λ k d l.
        let below = a.within k d l in
        ap test (get_or-range_with_len 1 (length session.records) (get_or a.places k d) 0 (omega (arith, below)))
        ∙ is_honest (get_or a.places k d) below (a.each k d l)) in
        omega (arith, few, a.enough)

    -- so the records are honest
    honest : HonestRecords session p.t (held_as p.tau matrix share_coins) (queries_from coins) blocks
    honest =
        let s = ap (λ (q : SessionParams). q.s) params in
        record {
          matrix_is = subst (λ (q : SessionParams). IsMatrix matrix q.r q.s) (sym params) a.matrix_is;
          shared = subst (λ (q : SessionParams). length share_coins ≡ q.r * q.s * p.tau) (sym params) a.shared;
          enough = subst (λ (w : ℕ). session.params.h ≤ count_by (λ i. is_frame (frame (held_by p.tau matrix w share_coins i) i) (slice_index_or session.records (i - 1) None)) (range_with_len 1 (length session.records))) (sym s)
              (subst (λ (q : SessionParams). q.h ≤ count_by test (range_with_len 1 (length session.records))) (sym params) enough);
        }

  -- the row is found
  pub held_row : (verdict : Verdict) → FindsHonestBlock session p.t p.tau (queries_from coins) blocks verdict → FindsHeldRow p blocks coins session verdict
  held_row verdict found = record {
    listed = λ matrix share_coins a blocks is. found.listed_by_frames matrix share_coins (honest matrix share_coins a) blocks is;
    alone = λ matrix share_coins a close. alone matrix share_coins a close;
    xor = λ is matrix share_coins a.
        let few = length-answers_from-le 1 session.params session.records in
        let agree = plan.numbers.all_agree is in
        let answer = plan.numbers.all_answer is in
        alone matrix share_coins a (omega (arith, few, whole, agree, answer));
  }
    where
      -- where the agreement is close, the row is listed alone
      alone : (matrix : List (List ℕ)) (share_coins : List ℕ) → EnoughReply p blocks coins matrix share_coins session
          → length (answers session) + p.t + p.tau < 2 * p.h → verdict ≡ Listed (blocks_of matrix blocks ∷ [])
      alone matrix share_coins a close =
          let t = ap (λ (q : SessionParams). q.t) params in
          let h = ap (λ (q : SessionParams). q.h) params in
          found.alone_by_frames matrix share_coins (honest matrix share_coins a) (omega (arith, close, t, h))
