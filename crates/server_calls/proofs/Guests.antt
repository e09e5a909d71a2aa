-- What a guest's bytes ask for, by their header and what stands behind it.
use Rattle.std.proofs.Common.{◌≡◌, ◌∙◌, inl, inr, ℕ, suc, ◌+◌, ◌*◌, ◌<◌, ◌≤◌, ◌||◌, Bool, true, List, length, take, drop, refl, sym, ap, ap₂, subst, arith}
use Rattle.std.proofs.lemmas.List.{length-take-le, take_all}
use Rattle.wire_frames.specs.declared.header.QueryHeader.{QueryHeader}
use Rattle.wire_frames.specs.declared.scheme.Scheme.{Scheme}
use Rattle.wire_frames.specs.declared.scheme.Scheme.TheVariants.{Shamir, Xor}
use Rattle.wire_frames.specs.declared.sizes.TheConstants.{FRAME_HEADER_LEN}
use Rattle.wire_frames.specs.Query.{IsQueryHeader}
use Rattle.wire_frames.specs.Scheme.{number_of, payload_len, scheme_of}
use Rattle.wire_frames.specs.Turns.{piece}
use Rattle.wire_frames.proofs.Answering.{blocks_in_query}
use Rattle.wire_frames.proofs.Schemes.{shamir_is, xor_is}
use Rattle.serve_core.specs.declared.terms.Terms.{Terms}
use Rattle.serve_core.specs.Case.{Asks, IsCut, IsWhole, IsWholeWith, Malformed, RefusedByHeader, Refuses, Suits, asked_of, header_of, payload, sets_unused, some_sets_unused}
use Rattle.serve_core.specs.Stages.{IsSuited}
use Rattle.serve_core.specs.Terms.{payload_len_for, terms_for}

-- the number of a scheme stands for it
pub scheme_back : (scheme : Scheme) → scheme_of (number_of scheme) ≡ scheme
scheme_back Shamir = shamir_is (number_of Shamir) refl
scheme_back Xor = xor_is (number_of Xor) refl

-- one more vector sets an unused bit, or one before it does
pub sets_more : (scheme : Scheme) (rows width n : ℕ) (query : List ℕ)
    → some_sets_unused (terms_for (number_of scheme) rows width) (n + 1) query
    ≡ (some_sets_unused (terms_for (number_of scheme) rows width) n query || sets_unused scheme rows (piece (payload_len scheme rows) n query))
unfolding some_sets_unused
sets_more scheme rows width n query =
    let next : n + 1 ≡ suc n = omega arith in
    ap (λ (k : ℕ). some_sets_unused (terms_for (number_of scheme) rows width) k query) next
    ∙ ap (λ (s : Scheme). some_sets_unused (terms_for (number_of scheme) rows width) n query || sets_unused s rows (piece (payload_len s rows) n query))
    (scheme_back scheme)

-- bytes that are no header of a query are malformed
pub malformed : (h : List ℕ) → length h ≡ FRAME_HEADER_LEN → ((q : QueryHeader) → IsQueryHeader h q → ⊥) → Malformed h
malformed h size none = record {
  whole = omega (arith, size);
  none = λ q is. none q (subst (λ (l : List ℕ). IsQueryHeader l q) (take_all FRAME_HEADER_LEN h (omega (arith, size))) is);
}

module _ (terms : Terms) (guest h rest : List ℕ) (front : h ≡ take FRAME_HEADER_LEN guest)
    (long : length rest + FRAME_HEADER_LEN ≡ length guest) where
  -- the header is whole
  whole : FRAME_HEADER_LEN ≤ length guest
  whole = omega (arith, long)

  -- and it is the guest's
  same : header_of h ≡ header_of guest
  same =
      let size = ap length front ∙ length-take-le FRAME_HEADER_LEN guest whole in
      take_all FRAME_HEADER_LEN h (omega (arith, size)) ∙ front

  -- a query with it
  asks : (q : QueryHeader) → IsQueryHeader (header_of h) q → Asks guest q
  asks q is = record { whole = whole; header = subst (λ (l : List ℕ). IsQueryHeader l q) same is }

  -- what is refused by the header is refused
  pub refused_on : (status : ℕ) → RefusedByHeader terms h status → RefusedByHeader terms guest status
  refused_on status (inl (is, m)) =
      inl (is, record { whole = whole; none = λ q i. m.none q (subst (λ (l : List ℕ). IsQueryHeader l q) (sym same) i) })
  refused_on status (inr (inl (is, o))) = inr (inl (is, record { query = o.query; asks = asks o.query o.asks.header; other = o.other }))
  refused_on status (inr (inr (is, o))) =
      inr (inr (is, record { query = o.query; asks = asks o.query o.asks.header; scheme = o.scheme; other = o.other }))

module _ (scheme : Scheme) (rows width : ℕ) (guest h rest : List ℕ) (front : h ≡ take FRAME_HEADER_LEN guest)
    (back : rest ≡ drop FRAME_HEADER_LEN guest) (long : length rest + FRAME_HEADER_LEN ≡ length guest)
    (q : QueryHeader) (suited : IsSuited (terms_for (number_of scheme) rows width) h q)
    (n m : ℕ) (n_is : n ≡ q.count) (m_is : m ≡ payload_len scheme rows) where
  -- the server's terms
  abbrev terms : Terms
  terms = terms_for (number_of scheme) rows width

  -- the header is the query's
  header : IsQueryHeader (header_of guest) q
  header = subst (λ (l : List ℕ). IsQueryHeader l q) front suited.is.is

  -- it suits, by the guest's own bytes
  pub suited_is : IsSuited terms (header_of guest) q
  suited_is = record { is = record { is = header; scheme = suited.is.scheme }; shape = suited.shape }

  -- so the query suits
  suits : Suits terms guest
  suits = record {
    query = q;
    asks = record { whole = omega (arith, long); header = header };
    scheme = suited.is.scheme;
    shape = suited.shape;
  }

  -- for so many blocks it asks
  asked : asked_of guest ≡ q.count
  asked = blocks_in_query (header_of guest) q header

  -- a vector is as long as the server takes it to be
  vector : payload_len (scheme_of (number_of scheme)) rows ≡ m
  vector = ap (λ (s : Scheme). payload_len s rows) (scheme_back scheme) ∙ sym m_is

  -- and so is the payload
  size : payload_len_for terms (asked_of guest) ≡ n * m
  size = ap₂ (λ (x y : ℕ). x * y) (asked ∙ sym n_is) vector

  -- the bytes end before it does
  pub cut : length rest < n * m → IsCut terms guest
  cut short = inr (suits, omega (arith, short, size, long))

  -- or they have it whole
  is_whole : n * m ≤ length rest → IsWhole terms guest
  is_whole enough = record { suits = suits; enough = omega (arith, enough, size, long) }

  -- which is this
  pub payload_is : take (n * m) rest ≡ payload terms guest
  payload_is = ap₂ (λ (k : ℕ) (l : List ℕ). take k l) (sym size) back

  -- and sets an unused bit or not, as one of its vectors does
  pub whole_with : (unused : Bool) → n * m ≤ length rest → unused ≡ some_sets_unused terms q.count (take (n * m) rest)
      → IsWholeWith unused terms guest
  whole_with unused enough is = record {
    whole = is_whole enough;
    unused_is = ap₂ (λ (k : ℕ) (l : List ℕ). some_sets_unused terms k l) asked (sym payload_is) ∙ sym is;
  }

  -- where it does, it is refused
  pub overfull : n * m ≤ length rest → true ≡ some_sets_unused terms q.count (take (n * m) rest) → Refuses terms guest 1
  overfull enough is = inr (refl, whole_with true enough is)
