-- What the definitions of both schemes are in the one and in the other.
use Rattle.std.proofs.Common.{◌≡◌, ◌∙◌, ℕ, ◌-◌, ◌*◌, List, length, get_or, ◌++◌, refl, sym, ap, ap₂}
use Rattle.shamir_share.specs.Query.{query}
use Rattle.shamir_share.proofs.Queries.{length-query}
use Rattle.wire_frames.specs.declared.scheme.TheConstants.{SHAMIR, XOR}
use Rattle.wire_frames.specs.declared.scheme.Scheme.{Scheme}
use Rattle.wire_frames.specs.declared.scheme.Scheme.TheVariants.{Shamir, Xor}
use Rattle.wire_frames.specs.declared.session.SessionParams.{SessionParams}
use Rattle.wire_frames.specs.Header.{query_header}
use Rattle.wire_frames.specs.Scheme.{scheme_of, payload_len}
use Rattle.wire_frames.specs.Turns.{in_turn, piece}
use Rattle.wire_frames.proofs.Turns.{in_turn-same, length-in_turn}
use Rattle.wire_frames.proofs.Schemes.{xor_is, shamir_is}
use Rattle.chor_xor.specs.Bitmap.{bitmap, size_of}
use Rattle.chor_xor.proofs.Shares.{length-bitmap}
use Rattle.query_rounds.specs.declared.plan.FetchPlan.{FetchPlan}
use Rattle.query_rounds.specs.Plan.{coins_for, params_of, query_coins, query_params, with_degree}
use Rattle.query_rounds.specs.Sent.{header_to, payload_for, payload_in, payload_to, queries_from, sent, session_number, vector_at}

-- in the XOR scheme
module _ (p : SessionParams) (two : p.scheme ≡ XOR) where
  pub coins_of_xor : query_coins p ≡ (p.n - 1) * size_of p.r
  unfolding query_coins
  coins_of_xor = ap (λ (s : Scheme). coins_for s p) (xor_is p.scheme two)

  pub payload_of_xor : (coins : List ℕ) (block i : ℕ) → payload_to p coins block i ≡ bitmap coins p.n p.r block i
  unfolding payload_to
  payload_of_xor coins block i = ap (λ (s : Scheme). payload_in s p coins block i) (xor_is p.scheme two)

-- in Shamir's sharing
module _ (p : SessionParams) (one : p.scheme ≡ SHAMIR) where
  pub coins_of_shamir : query_coins p ≡ p.r * p.t
  unfolding query_coins
  coins_of_shamir = ap (λ (s : Scheme). coins_for s p) (shamir_is p.scheme one)

  pub payload_of_shamir : (coins : List ℕ) (block i : ℕ) → payload_to p coins block i ≡ query coins p.t p.r block i
  unfolding payload_to
  payload_of_shamir coins block i = ap (λ (s : Scheme). payload_in s p coins block i) (shamir_is p.scheme one)

-- the coins of the queries don't depend on the session's number, nor on how many blocks are asked for
pub coins_of_session : (p : FetchPlan) (count number : ℕ) → query_coins (query_params p count number) ≡ query_coins (query_params p 1 0)
unfolding query_coins
coins_of_session p count number = by_scheme (scheme_of p.scheme)
  where
    by_scheme : (s : Scheme) → coins_for s (query_params p count number) ≡ coins_for s (query_params p 1 0)
    by_scheme Shamir = refl
    by_scheme Xor = refl

-- so they are those of the session of a fetch
pub coins_in_session : (p : FetchPlan) (count number t : ℕ) (params : SessionParams) → params ≡ params_of p count number → t ≡ p.t
    → query_coins (query_params p 1 0) ≡ query_coins (with_degree t params)
coins_in_session p count number t params is degree =
    sym (coins_of_session p count number) ∙ ap query_coins (sym (ap₂ with_degree degree is))

-- and they are as many as the rows of the session take
pub coins_of_rows : (p : FetchPlan) (number t : ℕ) (params : SessionParams) (blocks rows coins given : List ℕ) → params ≡ params_of p (length blocks) number → t ≡ p.t
    → given ≡ coins → length coins ≡ length blocks * query_coins (query_params p 1 0) → rows ≡ blocks
    → length given ≡ length rows * query_coins (with_degree t params)
coins_of_rows p number t params blocks rows coins given is degree coins_are size rows_are =
    ap length coins_are ∙ size ∙ ap (λ (n : ℕ). length blocks * n) (coins_in_session p (length blocks) number t params is degree)
    ∙ ap (λ (l : List ℕ). length l * query_coins (with_degree t params)) (sym rows_are)

-- nor does the vector of a query
pub vector_of_session : (p : FetchPlan) (count number : ℕ) (coins : List ℕ) (block i : ℕ)
    → payload_to (query_params p 1 0) coins block i ≡ payload_to (query_params p count number) coins block i
unfolding payload_to
vector_of_session p count number coins block i = by_scheme (scheme_of p.scheme)
  where
    by_scheme : (s : Scheme) → payload_in s (query_params p 1 0) coins block i ≡ payload_in s (query_params p count number) coins block i
    by_scheme Shamir = refl
    by_scheme Xor = refl

-- nor does its payload
pub payload_of_session : (p : FetchPlan) (count number : ℕ) (coins blocks : List ℕ) (i : ℕ)
    → payload_for (query_params p 1 0) coins blocks i ≡ payload_for (query_params p count number) coins blocks i
payload_of_session p count number coins blocks i =
    in_turn-same (length blocks) _ _ (λ v l.
    ap (λ (n : ℕ). payload_to (query_params p 1 0) (piece n v coins) (get_or blocks v 0) i) (sym (coins_of_session p count number))
    ∙ vector_of_session p count number (piece (query_coins (query_params p count number)) v coins) (get_or blocks v 0) i)

-- what a server is sent in Shamir's sharing
pub sent_in_shamir : (p : FetchPlan) (blocks coins : List ℕ) (i : ℕ) → p.scheme ≡ SHAMIR
    → sent p blocks coins i ≡ query_header (header_to p (length blocks) coins i)
    ++ in_turn (length blocks) (λ v. query (piece (p.r * p.t) v (queries_from coins)) p.t p.r (get_or blocks v 0) i)
unfolding sent
sent_in_shamir p blocks coins i one =
    let params = query_params p (length blocks) (session_number coins) in
    ap (λ (l : List ℕ). query_header (header_to p (length blocks) coins i) ++ l) (in_turn-same (length blocks) _ _ (λ v l.
    ap (λ (n : ℕ). payload_to params (piece n v (queries_from coins)) (get_or blocks v 0) i) (coins_of_shamir params one)
    ∙ payload_of_shamir params one (piece (p.r * p.t) v (queries_from coins)) (get_or blocks v 0) i))

-- and in the XOR scheme
pub sent_in_xor : (p : FetchPlan) (blocks coins : List ℕ) (i : ℕ) → p.scheme ≡ XOR
    → sent p blocks coins i ≡ query_header (header_to p (length blocks) coins i)
    ++ in_turn (length blocks) (λ v. bitmap (piece ((p.n - 1) * size_of p.r) v (queries_from coins)) p.n p.r (get_or blocks v 0) i)
unfolding sent
sent_in_xor p blocks coins i two =
    let params = query_params p (length blocks) (session_number coins) in
    ap (λ (l : List ℕ). query_header (header_to p (length blocks) coins i) ++ l) (in_turn-same (length blocks) _ _ (λ v l.
    ap (λ (n : ℕ). payload_to params (piece n v (queries_from coins)) (get_or blocks v 0) i) (coins_of_xor params two)
    ∙ payload_of_xor params two (piece ((p.n - 1) * size_of p.r) v (queries_from coins)) (get_or blocks v 0) i))

-- how long the payload of a query is
pub length-payload_to : (p : SessionParams) (coins : List ℕ) (block i : ℕ)
    → length (payload_to p coins block i) ≡ payload_len (scheme_of p.scheme) p.r
unfolding payload_to
length-payload_to p coins block i = by_scheme (scheme_of p.scheme)
  where
    by_scheme : (s : Scheme) → length (payload_in s p coins block i) ≡ payload_len s p.r
    by_scheme Shamir = length-query coins p.t p.r block i
    by_scheme Xor = length-bitmap coins p.n p.r block i

-- the payload of a query has a vector for each block
pub length-payload_for : (p : SessionParams) (coins blocks : List ℕ) (i : ℕ)
    → length (payload_for p coins blocks i) ≡ length blocks * payload_len (scheme_of p.scheme) p.r
length-payload_for p coins blocks i =
    length-in_turn (length blocks) (payload_len (scheme_of p.scheme) p.r) (vector_at p coins blocks i) (λ v l. length-payload_to p (piece (query_coins p) v coins) (get_or blocks v 0) i)
