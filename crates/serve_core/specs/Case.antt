-- Which queries are taken whole, refused, or cut, by the bytes of a guest.
use Rattle.std.specs.Prelude.{◌≡◌, ◌≢◌, ◌⊎◌, ℕ, zero, suc, ◌<◌, ◌≤◌, ◌||◌, Bool, true, false, List, [], length, take, drop}
use Rattle.wire_frames.specs.declared.sizes.TheConstants.{FRAME_HEADER_LEN}
use Rattle.wire_frames.specs.declared.scheme.Scheme.{Scheme}
use Rattle.wire_frames.specs.declared.scheme.Scheme.TheVariants.{Shamir, Xor}
use Rattle.wire_frames.specs.declared.header.QueryHeader.{QueryHeader}
use Rattle.wire_frames.specs.Scheme.{scheme_of}
use Rattle.wire_frames.specs.Header.{answer_to, blocks_in}
use Rattle.wire_frames.specs.Query.{IsQueryHeader}
use Rattle.wire_frames.specs.Turns.{piece}
use Rattle.chor_xor.specs.Bitmap.{has_unused}
use Rattle.serve_core.specs.Terms.{payload_len_for, query_len_for, vector_len_for}
use Rattle.serve_core.specs.declared.terms.Terms.{Terms}
use Rattle.serve_core.specs.declared.met.Met.{Met}
use Rattle.serve_core.specs.declared.met.Met.TheVariants.{Served, Refused, Gone, GuestFault}

-- the header of a query, in front of a guest's bytes
abbrev pub header_of : List ℕ → List ℕ
header_of bytes = take FRAME_HEADER_LEN bytes

-- the first bytes are the header of this query
pub record Asks (bytes : List ℕ) (query : QueryHeader) : Type 0 where
  pub whole : FRAME_HEADER_LEN ≤ length bytes
  pub header : IsQueryHeader (header_of bytes) query

-- the query is for a database of this shape
pub record IsShaped (terms : Terms) (query : QueryHeader) : Type 0 where
  pub rows : query.r ≡ terms.rows
  pub width : query.s ≡ terms.width

-- the first bytes are no header of a query
pub record Malformed (bytes : List ℕ) : Type 0 where
  pub whole : FRAME_HEADER_LEN ≤ length bytes
  pub none : (query : QueryHeader) → IsQueryHeader (header_of bytes) query → ⊥

-- they are that of a query of another scheme
pub record OtherScheme (terms : Terms) (bytes : List ℕ) : Type 0 where
  pub query : QueryHeader
  pub asks : Asks bytes query
  pub other : query.scheme ≢ terms.scheme

-- they are that of a query of the scheme, for a database of another shape
pub record OtherShape (terms : Terms) (bytes : List ℕ) : Type 0 where
  pub query : QueryHeader
  pub asks : Asks bytes query
  pub scheme : query.scheme ≡ terms.scheme
  pub other : IsShaped terms query → ⊥

-- they are that of a query of the scheme, for a database of this shape
pub record Suits (terms : Terms) (bytes : List ℕ) : Type 0 where
  pub query : QueryHeader
  pub asks : Asks bytes query
  pub scheme : query.scheme ≡ terms.scheme
  pub shape : IsShaped terms query

-- a query is refused by its header: with status 1 where it is malformed, 3 for its scheme, 2 for
-- its shape
abbrev pub RefusedByHeader : Terms → List ℕ → ℕ → Type 0
RefusedByHeader terms bytes status = ((status ≡ 1) × Malformed bytes)
    ⊎ ((status ≡ 3) × OtherScheme terms bytes)
    ⊎ ((status ≡ 2) × OtherShape terms bytes)

-- for how many blocks a query asks, by its header
abbrev pub asked_of : List ℕ → ℕ
asked_of bytes = blocks_in (header_of bytes)

-- how many bytes a query has whose first bytes are these, by its header
abbrev pub query_len_of : Terms → List ℕ → ℕ
query_len_of terms bytes = query_len_for terms (asked_of bytes)

-- the payload of a query, behind the header: a vector for each block
abbrev pub payload : Terms → List ℕ → List ℕ
payload terms bytes =
    take (payload_len_for terms (asked_of bytes)) (drop FRAME_HEADER_LEN bytes)

-- a vector for so many rows sets a bit past those of the rows, as one of the XOR scheme can
abbrev pub sets_unused : Scheme → ℕ → List ℕ → Bool
sets_unused Shamir rows query = false
sets_unused Xor rows query = has_unused rows query

-- the i-th vector of a payload does, counted from 0
abbrev pub sets_unused_at : Terms → List ℕ → ℕ → Bool
sets_unused_at terms query i =
    sets_unused (scheme_of terms.scheme) terms.rows (piece (vector_len_for terms) i query)

-- one of the first n vectors of a payload does
unfoldable pub some_sets_unused : Terms → ℕ → List ℕ → Bool
some_sets_unused terms zero query = false
some_sets_unused terms (suc n) query =
    some_sets_unused terms n query || sets_unused_at terms query n

-- the bytes are a whole query that suits
pub record IsWhole (terms : Terms) (bytes : List ℕ) : Type 0 where
  pub suits : Suits terms bytes
  pub enough : query_len_of terms bytes ≤ length bytes

-- they are one of whose vectors one sets an unused bit or none does, as this says
pub record IsWholeWith (unused : Bool) (terms : Terms) (bytes : List ℕ) : Type 0 where
  pub whole : IsWhole terms bytes
  pub unused_is : some_sets_unused terms (asked_of bytes) (payload terms bytes) ≡ unused

-- a whole query is refused by its payload: with status 1 where it sets an unused bit
abbrev pub RefusedByPayload : Terms → List ℕ → ℕ → Type 0
RefusedByPayload terms bytes status = (status ≡ 1) × IsWholeWith true terms bytes

-- a query is answered by this status alone
abbrev pub Refuses : Terms → List ℕ → ℕ → Type 0
Refuses terms bytes status = RefusedByHeader terms bytes status
    ⊎ RefusedByPayload terms bytes status

-- the bytes end before the query does
abbrev pub IsCut : Terms → List ℕ → Type 0
IsCut terms bytes = (length bytes < FRAME_HEADER_LEN)
    ⊎ (Suits terms bytes × (length bytes < query_len_of terms bytes))

-- the case in which a guest's bytes are, by what it is met with: it is served where its query is whole and good
abbrev pub IsCase : Terms → List ℕ → Met → Type 0
IsCase terms bytes Served = IsWholeWith false terms bytes
IsCase terms bytes (Refused status) = Refuses terms bytes status
IsCase terms bytes Gone = IsCut terms bytes
IsCase terms bytes GuestFault = ⊥

-- the frame for a guest whose query isn't taken: that of the refusal, and none where it is gone
abbrev pub dismissal : Met → List ℕ → List ℕ
dismissal (Refused status) bytes = answer_to (header_of bytes) status
dismissal Served bytes = []
dismissal Gone bytes = []
dismissal GuestFault bytes = []

-- the reply takes so many of the guest's bytes: the whole query where its payload is judged, only
-- the header where that is refused, and all of a query that is cut
abbrev pub ReplyTakes : Terms → List ℕ → Met → ℕ → Type 0
ReplyTakes terms bytes Served n = n ≡ query_len_of terms bytes
ReplyTakes terms bytes (Refused status) n =
    (RefusedByHeader terms bytes status × (n ≡ FRAME_HEADER_LEN))
    ⊎ (RefusedByPayload terms bytes status × (n ≡ query_len_of terms bytes))
ReplyTakes terms bytes Gone n = n ≡ length bytes
ReplyTakes terms bytes GuestFault n = ⊥
