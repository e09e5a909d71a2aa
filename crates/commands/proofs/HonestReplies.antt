-- A server's reply to the query of a fetch.
use Rattle.std.proofs.Common.{◌*◌, ◌||◌, ◌≡◌, Bool, false, inl, inr, ℕ, zero, suc, ◌+◌, ◌<◌, ◌≤◌, ◌^◌, List, ◌++◌, length, take, drop, get_or, refl, sym, ◌∙◌, ap, ap₂, subst, arith, length-append, All}
use Rattle.std.proofs.Math.Seq.{take-append_seam, drop-append_seam}
use Rattle.std.proofs.lemmas.Bool.{false≢true}
use Rattle.std.proofs.lemmas.List.{take_all}
use Rattle.gf256.specs.Product.{IsMatrix}
use Rattle.wire_frames.specs.declared.sizes.TheConstants.{FRAME_HEADER_LEN}
use Rattle.chor_xor.specs.Bitmap.{bitmap, has_unused}
use Rattle.wire_frames.specs.declared.scheme.Scheme.{Scheme}
use Rattle.wire_frames.specs.declared.scheme.Scheme.TheVariants.{Shamir, Xor}
use Rattle.wire_frames.specs.Scheme.{scheme_of, payload_len}
use Rattle.wire_frames.specs.declared.header.QueryHeader.{QueryHeader}
use Rattle.wire_frames.specs.declared.session.SessionParams.{SessionParams}
use Rattle.wire_frames.specs.Header.{blocks_in, query_header}
use Rattle.wire_frames.specs.Sizes.{query_len}
use Rattle.wire_frames.specs.Turns.{piece}
use Rattle.wire_frames.proofs.Answering.{answer_to_query, blocks_in_query}
use Rattle.wire_frames.proofs.Turns.{in_turn-same, piece-in_turn}
use Rattle.wire_frames.specs.Limits.{IsQuery}
use Rattle.wire_frames.specs.Query.{IsQueryHeader}
use Rattle.wire_frames.proofs.Parsing.{same_digits}
use Rattle.wire_frames.proofs.Servers.{scheme_in}
use Rattle.query_rounds.specs.declared.coins.TheConstants.{NUMBER_LEN}
use Rattle.query_rounds.specs.declared.plan.FetchPlan.{FetchPlan}
use Rattle.query_rounds.specs.Plan.{AreBlocks, IsPlan, need, query_coins, query_params}
use Rattle.query_rounds.specs.Sent.{header_to, payload_for, payload_in, payload_to, queries_from, sent, session_number, vector_at}
use Rattle.fetch_client.specs.Honest.{answer_by, answer_in, honest_answer, honest_frame}
use Rattle.query_rounds.proofs.Schemes.{length-payload_for, length-payload_to}
use Rattle.query_rounds.proofs.Ranges.{range_of}
use Rattle.serve_core.specs.Terms.{payload_len_for, vector_len_for}
use Rattle.serve_core.specs.Service.{Service, terms_of}
use Rattle.serve_core.specs.Case.{IsShaped, Suits, RefusedByHeader, asked_of, payload, sets_unused, some_sets_unused}
use Rattle.serve_core.specs.Reply.{Replies, answer, answer_frame, answers}
use Rattle.serve_core.specs.declared.met.Met.{Met}
use Rattle.serve_core.specs.declared.met.Met.TheVariants.{Served, Refused, Gone, GuestFault}
use Rattle.commands.specs.HonestReply.{service_with, frame_of, RepliesHonestly}
use Rattle.commands.proofs.UnusedBits.{none_unused}

-- two headers of queries with the same bytes are of one scheme and one shape
module _ (q p : QueryHeader) (hq : IsQuery q) (hp : IsQuery p) (same : query_header q ≡ query_header p) where
  -- their schemes are one
  same_scheme : q.scheme ≡ p.scheme
  same_scheme = ap (λ (l : List ℕ). get_or l 5 0) same

  -- their numbers of rows are
  same_rows : q.r ≡ p.r
  same_rows = same_digits 4 q.r p.r (omega (arith, hq.shape.few_rows)) (omega (arith, hp.shape.few_rows)) (ap (λ (l : List ℕ). take 4 (drop 16 l)) same)

  -- and their widths
  same_width : q.s ≡ p.s
  same_width = same_digits 4 q.s p.s (omega (arith, hq.shape.few_bytes)) (omega (arith, hp.shape.few_bytes)) (ap (λ (l : List ℕ). take 4 (drop 20 l)) same)

module _ (p : FetchPlan) (blocks : List ℕ) (are : AreBlocks p blocks) (coins : List ℕ) (i : ℕ)
    (is_query : IsQuery (header_to p (length blocks) coins i)) (matrix : List (List ℕ)) (workers : ℕ)
    (is : IsMatrix matrix p.r p.s) where
  -- the numbers of the session
  abbrev params : SessionParams
  params = query_params p (length blocks) (session_number coins)

  -- the header of the query
  abbrev header : QueryHeader
  header = header_to p (length blocks) coins i

  -- the coins of the queries
  abbrev own : List ℕ
  own = queries_from coins

  -- what stands behind the header
  abbrev asked_for : List ℕ
  asked_for = payload_for params own blocks i

  -- how long the vector of a block is
  abbrev vector_len : ℕ
  vector_len = payload_len (scheme_of p.scheme) p.r

  -- the frame begins with the header
  front : take FRAME_HEADER_LEN (sent p blocks coins i) ≡ query_header header
  unfolding sent
  front = take-append_seam (query_header header) asked_for

  -- and goes on with that
  rest : drop FRAME_HEADER_LEN (sent p blocks coins i) ≡ asked_for
  unfolding sent
  rest = drop-append_seam (query_header header) asked_for

  -- and has that length
  size : length (sent p blocks coins i) ≡ query_len (scheme_of p.scheme) (length blocks) p.r
  unfolding sent
  size = length-append (query_header header) asked_for ∙ ap (λ n. FRAME_HEADER_LEN + n) (length-payload_for params own blocks i)

  -- the server that holds the matrix
  abbrev service : Service
  service = service_with p matrix workers

  -- the header is one of a query
  is_header : IsQueryHeader (query_header header) header
  is_header = record { range = is_query; spelled = refl }

  -- and suits the server
  suits : Suits (terms_of service) (sent p blocks coins i)
  suits = record {
    query = header;
    asks = record { whole = omega (arith, size); header = record { range = is_query; spelled = front } };
    scheme = refl;
    shape = record { rows = sym is.rows; width = refl };
  }

  -- its payload is as long as the server takes it to be
  asked : asked_of (sent p blocks coins i) ≡ length blocks
  asked = ap blocks_in front ∙ blocks_in_query (query_header header) header is_header

  -- the server takes vectors to be that long
  vector_is : vector_len_for (terms_of service) ≡ vector_len
  vector_is = ap (payload_len (scheme_of p.scheme)) is.rows

  -- so it takes the payload to be as long as it is
  size_is : payload_len_for (terms_of service) (asked_of (sent p blocks coins i)) ≡ length blocks * vector_len
  size_is = ap₂ (λ (n m : ℕ). n * m) asked vector_is

  -- and to be what it is
  query_is : payload (terms_of service) (sent p blocks coins i) ≡ asked_for
  query_is = ap₂ take size_is rest ∙ take_all (length blocks * vector_len) asked_for (let n = length-payload_for params own blocks i in omega (arith, n))

  -- it has the vectors of the blocks
  vectors_are : (v : ℕ) → v < length blocks → piece (vector_len_for (terms_of service)) v asked_for ≡ vector_at params own blocks i v
  vectors_are v low = ap (λ (n : ℕ). piece n v asked_for) vector_is
      ∙ piece-in_turn (length blocks) vector_len v (vector_at params own blocks i) (λ k _. length-payload_to params (piece (query_coins params) k own) (get_or blocks k 0) i) low

  -- which set no unused bit, of which only bitmaps have some
  trim_vector : (v : ℕ) → v < length blocks → sets_unused (scheme_of service.scheme) (length service.database.rows) (vector_at params own blocks i v) ≡ false
  unfolding payload_to
  trim_vector v low = by_scheme (scheme_of p.scheme)
    where
      -- in either scheme
      by_scheme : (s : Scheme) → sets_unused s (length service.database.rows) (payload_in s params (piece (query_coins params) v own) (get_or blocks v 0) i) ≡ false
      by_scheme Shamir = refl
      by_scheme Xor = ap (λ (r : ℕ). has_unused r (bitmap (piece (query_coins params) v own) p.n p.r (get_or blocks v 0) i)) is.rows
          ∙ none_unused (piece (query_coins params) v own) p.n p.r (get_or blocks v 0) i (are.each v 0 low)

  -- nor do the first of them
  trim_first : (n : ℕ) → n ≤ length blocks → some_sets_unused (terms_of service) n asked_for ≡ false
  unfolding some_sets_unused
  trim_first zero few = refl
  trim_first (suc n) few = ap₂ (λ (x y : Bool). x || y) (trim_first n (omega (arith, few)))
      (ap (sets_unused (scheme_of p.scheme) (length service.database.rows)) (vectors_are n (omega (arith, few))) ∙ trim_vector n (omega (arith, few)))

  -- so the payload sets none
  trim : some_sets_unused (terms_of service) (asked_of (sent p blocks coins i)) (payload (terms_of service) (sent p blocks coins i)) ≡ false
  trim = ap₂ (some_sets_unused (terms_of service)) asked query_is ∙ trim_first (length blocks) (omega arith)

  -- the server's answer to a vector is the honest one
  answer_is : (vector : List ℕ) → answer (scheme_of service.scheme) service.database vector ≡ honest_answer params matrix vector
  unfolding honest_answer
  answer_is vector = by_scheme (scheme_of p.scheme)
    where
      -- in either scheme
      by_scheme : (s : Scheme) → answer s service.database vector ≡ answer_in s params matrix vector
      by_scheme Shamir = refl
      by_scheme Xor = refl

  -- and so are its answers to all of them
  answers_are : answers service (blocks_in (query_header header)) asked_for ≡ answer_by params matrix own blocks i
  answers_are = ap (λ (n : ℕ). answers service n asked_for) (blocks_in_query (query_header header) header is_header)
      ∙ in_turn-same (length blocks) _ _ (λ v low. ap (answer (scheme_of p.scheme) service.database) (vectors_are v low) ∙ answer_is (vector_at params own blocks i v))

  -- so its frame is that of an honest server
  frame_is : answer_frame service (take FRAME_HEADER_LEN (sent p blocks coins i)) (payload (terms_of service) (sent p blocks coins i)) ≡ frame_of p blocks coins matrix i
  unfolding honest_frame
  frame_is = ap₂ (answer_frame service) front query_is ∙ ap₂ (λ (h l : List ℕ). h ++ l) (answer_to_query header 0 is_query.blocks.some_version is_query.blocks.two_versions) answers_are

  -- another header has the same bytes, but is of another query: there is none
  no_other : (other : QueryHeader) → IsQueryHeader (take FRAME_HEADER_LEN (sent p blocks coins i)) other → (other.scheme ≡ p.scheme) × IsShaped (terms_of service) other
  no_other other h =
      let same : query_header other ≡ query_header header = sym h.spelled ∙ front in
      (same_scheme other header h.range is_query same, record { rows = same_rows other header h.range is_query same ∙ sym is.rows; width = same_width other header h.range is_query same })

  -- it refuses the query by no status
  never_refused : (status : ℕ) → RefusedByHeader (terms_of service) (sent p blocks coins i) status → ⊥
  never_refused status (inl bad) = bad.1.none header (record { range = is_query; spelled = front })
  never_refused status (inr (inl other)) = other.1.other (no_other other.1.query other.1.asks.header).0
  never_refused status (inr (inr other)) = other.1.other (no_other other.1.query other.1.asks.header).1

  -- any reply is that frame
  only_reply : (met : Met) (frame : List ℕ) → Replies service (sent p blocks coins i) met frame → (met ≡ Served) × (frame ≡ frame_of p blocks coins matrix i)
  only_reply Served frame r = (refl, r.1 ∙ frame_is)
  only_reply (Refused status) frame (inl by_header, f) = absurd (never_refused status by_header)
  only_reply (Refused status) frame (inr by_payload, f) = absurd (false≢true (sym trim ∙ by_payload.1.unused_is))
  only_reply Gone frame (inl short, none) = absurd (omega (arith, size, short))
  only_reply Gone frame (inr cut, none) = let few = cut.1 in absurd (omega (arith, size, few, size_is))
  only_reply GuestFault frame r = absurd r

  -- and that frame is a reply
  the_reply : (met : Met) (frame : List ℕ) → (met ≡ Served) × (frame ≡ frame_of p blocks coins matrix i) → Replies service (sent p blocks coins i) met frame
  the_reply met frame r = subst (λ (m : Met). Replies service (sent p blocks coins i) m frame) (sym r.0)
      (record { whole = record { suits = suits; enough = omega (arith, size, size_is) }; unused_is = trim }, r.1 ∙ sym frame_is)

-- the reply is the frame of an honest server
pub replies_honestly : (p : FetchPlan) (blocks : List ℕ) → AreBlocks p blocks → (coins : List ℕ) (i : ℕ) (matrix : List (List ℕ)) (workers : ℕ) → IsQuery (header_to p (length blocks) coins i)
    → RepliesHonestly p blocks coins i matrix workers
replies_honestly p blocks are coins i matrix workers is_query is met frame = (only_reply p blocks are coins i is_query matrix workers is met frame, the_reply p blocks are coins i is_query matrix workers is met frame)

-- the number of a session has eight bytes
session_below : (coins : List ℕ) → ((k : ℕ) → k < NUMBER_LEN → get_or coins k 0 < 256) → session_number coins < 2 ^ 64
unfolding session_number
session_below coins byte =
    omega (arith, byte 0 (omega arith), byte 1 (omega arith), byte 2 (omega arith), byte 3 (omega arith), byte 4 (omega arith), byte 5 (omega arith), byte 6 (omega arith), byte 7 (omega arith))

-- what a fetch asks is a query
pub asks_a_query : (p : FetchPlan) (blocks coins : List ℕ) (i : ℕ) → IsPlan p → AreBlocks p blocks → length coins ≡ need p (length blocks) → All (λ b. b < 256) coins → 1 ≤ i → i < 256
    → IsQuery (header_to p (length blocks) coins i)
asks_a_query p blocks coins i plan are size bytes some few =
    let scheme = scheme_in p.scheme plan.numbers.scheme in
    let range = range_of p blocks 0 plan are (omega arith) in
    record {
      some_scheme = scheme.0;
      two_schemes = scheme.1;
      some_index = some;
      few_indices = omega (arith, few);
      session = session_below coins (λ k l. bytes k 0 (omega (arith, size, l)));
      shape = plan.numbers.shape;
      blocks = range.blocks;
    }
