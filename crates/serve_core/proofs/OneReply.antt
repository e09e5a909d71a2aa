-- The bytes of a guest ask for one reply alone.
use Rattle.std.proofs.Common.{◌≡◌, true, false, inl, inr, ℕ, ◌≤◌, List, length, take, drop, get_or, refl, sym, ◌∙◌, ap, arith}
use Rattle.std.proofs.lemmas.Bool.{false≢true}
use Rattle.wire_frames.specs.declared.sizes.TheConstants.{FRAME_HEADER_LEN}
use Rattle.wire_frames.specs.declared.header.QueryHeader.{QueryHeader}
use Rattle.wire_frames.specs.Header.{answer_to, query_header}
use Rattle.wire_frames.specs.Query.{IsQueryHeader}
use Rattle.wire_frames.proofs.Parsing.{same_digits}
use Rattle.serve_core.specs.Service.{Service, terms_of}
use Rattle.serve_core.specs.declared.terms.Terms.{Terms}
use Rattle.serve_core.specs.Case.{IsShaped, IsWhole, IsWholeWith, Suits, RefusedByHeader, Refuses, IsCut}
use Rattle.serve_core.specs.Reply.{AsksForOneReply}
use Rattle.serve_core.specs.declared.met.Met.TheVariants.{Served, Refused, Gone, GuestFault}

-- two queries that are judged alike
record IsAlike (q p : QueryHeader) : Type 0 where
  scheme : q.scheme ≡ p.scheme
  rows : q.r ≡ p.r
  width : q.s ≡ p.s

-- queries with the same header
alike : (header : List ℕ) (q p : QueryHeader) → IsQueryHeader header q → IsQueryHeader header p → IsAlike q p
alike header q p hq hp =
    let e : query_header q ≡ query_header p = sym hq.spelled ∙ hp.spelled in
    record {
      scheme = ap (λ (l : List ℕ). get_or l 5 0) e;
      rows = same_digits 4 q.r p.r (omega (arith, hq.range.shape.few_rows)) (omega (arith, hp.range.shape.few_rows)) (ap (λ (l : List ℕ). take 4 (drop 16 l)) e);
      width = same_digits 4 q.s p.s (omega (arith, hq.range.shape.few_bytes)) (omega (arith, hp.range.shape.few_bytes)) (ap (λ (l : List ℕ). take 4 (drop 20 l)) e);
    }

-- the shape of a query is that of one with the same header
shaped : (terms : Terms) (q p : QueryHeader) → IsAlike q p → IsShaped terms p → IsShaped terms q
shaped terms q p same is = record { rows = same.rows ∙ is.rows; width = same.width ∙ is.width }

-- a query that suits isn't refused by its header
suits_or_refused : (terms : Terms) (bytes : List ℕ) (status : ℕ) → Suits terms bytes → RefusedByHeader terms bytes status → ⊥
suits_or_refused terms bytes status s (inl a) = a.1.none s.query s.asks.header
suits_or_refused terms bytes status s (inr (inl a)) = a.1.other ((alike (take FRAME_HEADER_LEN bytes) a.1.query s.query a.1.asks.header s.asks.header).scheme ∙ s.scheme)
suits_or_refused terms bytes status s (inr (inr a)) = a.1.other (shaped terms a.1.query s.query (alike (take FRAME_HEADER_LEN bytes) a.1.query s.query a.1.asks.header s.asks.header) s.shape)

-- one whose payload sets no unused bit isn't refused by its payload
unused_or_not : (terms : Terms) (bytes : List ℕ) → IsWholeWith false terms bytes → IsWholeWith true terms bytes → ⊥
unused_or_not terms bytes a b = false≢true (sym a.unused_is ∙ b.unused_is)

-- nor is it refused at all
good_or_refused : (terms : Terms) (bytes : List ℕ) (status : ℕ) → IsWholeWith false terms bytes → Refuses terms bytes status → ⊥
good_or_refused terms bytes status good (inl by_header) = suits_or_refused terms bytes status good.whole.suits by_header
good_or_refused terms bytes status good (inr by_payload) = unused_or_not terms bytes good by_payload.1

-- what is refused has a whole header
refused_whole : (terms : Terms) (bytes : List ℕ) (status : ℕ) → RefusedByHeader terms bytes status → FRAME_HEADER_LEN ≤ length bytes
refused_whole terms bytes status (inl a) = a.1.whole
refused_whole terms bytes status (inr (inl a)) = a.1.asks.whole
refused_whole terms bytes status (inr (inr a)) = a.1.asks.whole

-- a whole query isn't cut
whole_or_cut : (terms : Terms) (bytes : List ℕ) → IsWhole terms bytes → IsCut terms bytes → ⊥
whole_or_cut terms bytes whole (inl short) = let enough = whole.enough in omega (arith, enough, short)
whole_or_cut terms bytes whole (inr cut) = let enough = whole.enough in let short = cut.1 in omega (arith, enough, short)

-- nor is what is refused
cut_or_refused : (terms : Terms) (bytes : List ℕ) (status : ℕ) → IsCut terms bytes → Refuses terms bytes status → ⊥
cut_or_refused terms bytes status (inl short) (inl refused) = let whole = refused_whole terms bytes status refused in omega (arith, short, whole)
cut_or_refused terms bytes status (inr cut) (inl refused) = suits_or_refused terms bytes status cut.0 refused
cut_or_refused terms bytes status cut (inr refused) = whole_or_cut terms bytes refused.1.whole cut

-- a header is refused with one status alone
one_status : (terms : Terms) (bytes : List ℕ) (j k : ℕ) → RefusedByHeader terms bytes j → RefusedByHeader terms bytes k → j ≡ k
one_status terms bytes j k (inl a) (inl b) = a.0 ∙ sym b.0
one_status terms bytes j k (inl a) (inr (inl b)) = absurd (a.1.none b.1.query b.1.asks.header)
one_status terms bytes j k (inl a) (inr (inr b)) = absurd (a.1.none b.1.query b.1.asks.header)
one_status terms bytes j k (inr (inl a)) (inl b) = absurd (b.1.none a.1.query a.1.asks.header)
one_status terms bytes j k (inr (inr a)) (inl b) = absurd (b.1.none a.1.query a.1.asks.header)
one_status terms bytes j k (inr (inl a)) (inr (inl b)) = a.0 ∙ sym b.0
one_status terms bytes j k (inr (inr a)) (inr (inr b)) = a.0 ∙ sym b.0
one_status terms bytes j k (inr (inl a)) (inr (inr b)) = absurd (a.1.other ((alike (take FRAME_HEADER_LEN bytes) a.1.query b.1.query a.1.asks.header b.1.asks.header).scheme ∙ b.1.scheme))
one_status terms bytes j k (inr (inr a)) (inr (inl b)) = absurd (b.1.other ((alike (take FRAME_HEADER_LEN bytes) b.1.query a.1.query b.1.asks.header a.1.asks.header).scheme ∙ a.1.scheme))

-- and so is a query
one_refusal : (terms : Terms) (bytes : List ℕ) (j k : ℕ) → Refuses terms bytes j → Refuses terms bytes k → j ≡ k
one_refusal terms bytes j k (inl a) (inl b) = one_status terms bytes j k a b
one_refusal terms bytes j k (inl a) (inr b) = absurd (suits_or_refused terms bytes j b.1.whole.suits a)
one_refusal terms bytes j k (inr a) (inl b) = absurd (suits_or_refused terms bytes k a.1.whole.suits b)
one_refusal terms bytes j k (inr a) (inr b) = a.0 ∙ sym b.0

-- two replies to the same bytes are one
pub one_reply : (service : Service) (bytes : List ℕ) → AsksForOneReply service bytes
one_reply service bytes Served Served f g a b = (refl, a.1 ∙ sym b.1)
one_reply service bytes Served (Refused k) f g a b = absurd (good_or_refused (terms_of service) bytes k a.0 b.0)
one_reply service bytes Served Gone f g a b = absurd (whole_or_cut (terms_of service) bytes a.0.whole b.0)
one_reply service bytes Served GuestFault f g a b = absurd b
one_reply service bytes (Refused j) Served f g a b = absurd (good_or_refused (terms_of service) bytes j b.0 a.0)
one_reply service bytes (Refused j) (Refused k) f g a b = let e = one_refusal (terms_of service) bytes j k a.0 b.0 in (ap Refused e, a.1 ∙ ap (answer_to (take FRAME_HEADER_LEN bytes)) e ∙ sym b.1)
one_reply service bytes (Refused j) Gone f g a b = absurd (cut_or_refused (terms_of service) bytes j b.0 a.0)
one_reply service bytes (Refused j) GuestFault f g a b = absurd b
one_reply service bytes Gone Served f g a b = absurd (whole_or_cut (terms_of service) bytes b.0.whole a.0)
one_reply service bytes Gone (Refused k) f g a b = absurd (cut_or_refused (terms_of service) bytes k a.0 b.0)
one_reply service bytes Gone Gone f g a b = (refl, a.1 ∙ sym b.1)
one_reply service bytes Gone GuestFault f g a b = absurd b
one_reply service bytes GuestFault other f g a b = absurd a
