-- What each server is sent, in Shamir's sharing (Goldberg 2007) and in the XOR scheme (Chor, Goldreich, Kushilevitz and Sudan
-- 1995).
use Rattle.std.specs.Prelude.{ℕ, ◌+◌, List, [], ◌++◌, drop, length, slice_index, slice_index_or}
use Rattle.byteorder.specs.Endian.{big_number}
use Rattle.wire_frames.specs.declared.header.QueryHeader.{QueryHeader}
use Rattle.wire_frames.specs.declared.scheme.Scheme.{Scheme}
use Rattle.wire_frames.specs.declared.scheme.Scheme.TheVariants.{Shamir, Xor}
use Rattle.wire_frames.specs.declared.session.SessionParams.{SessionParams}
use Rattle.wire_frames.specs.Answer.{asked}
use Rattle.wire_frames.specs.Header.{query_header}
use Rattle.wire_frames.specs.Scheme.{scheme_of, payload_len}
use Rattle.wire_frames.specs.Session.{Transcript}
use Rattle.wire_frames.specs.Sizes.{answer_len, query_len}
use Rattle.wire_frames.specs.Turns.{in_turn, piece}
use Rattle.chor_xor.specs.Bitmap.{bitmap}
use Rattle.shamir_share.specs.Query.{query}
use Rattle.query_rounds.specs.declared.coins.TheConstants.{NUMBER_LEN}
use Rattle.query_rounds.specs.declared.plan.FetchPlan.{FetchPlan}
use Rattle.query_rounds.specs.Plan.{params_of, query_coins, query_params}
use Rattle.query_rounds.specs.Queries.{Queries}
use Rattle.query_rounds.specs.Request.{Request}

-- the number of the session: that in the first coins
unfoldable pub session_number : List ℕ → ℕ
session_number coins = big_number NUMBER_LEN coins

-- the coins of the queries: those behind the session's number
abbrev pub queries_from : List ℕ → List ℕ
queries_from coins = drop NUMBER_LEN coins

-- the header of the query to server i
abbrev pub header_to : FetchPlan → ℕ → List ℕ → ℕ → QueryHeader
header_to p count coins i = asked (params_of p count (session_number coins)) i

-- the session of a request with this number, before there is a record in it
abbrev pub empty_session : Request → ℕ → Transcript
empty_session r number = record { params = params_of r.plan (length r.blocks) number; records = [] }

-- how many bytes the frame has that a server is sent
abbrev pub frame_len : Request → ℕ
frame_len r = query_len (scheme_of r.plan.scheme) (length r.blocks) r.plan.r

-- how many bytes a server answers, at most
abbrev pub reply_len : Request → ℕ
reply_len r = answer_len (length r.blocks) r.plan.s

-- how many bytes the vector for a block has
abbrev pub vector_len : FetchPlan → ℕ
vector_len p = payload_len (scheme_of p.scheme) p.r

-- how many coins a plan takes for the vectors of a block
abbrev pub vector_coins : FetchPlan → ℕ
vector_coins p = query_coins (query_params p 1 0)

-- the vector of the query to server i for a block, by the coins for it: the shares of the block's unit vector, and in
-- the XOR scheme a bitmap
abbrev pub payload_in : Scheme → SessionParams → List ℕ → ℕ → ℕ → List ℕ
payload_in Shamir p coins block i = query coins p.t p.r block i
payload_in Xor p coins block i = bitmap coins p.n p.r block i

-- the vector of the query to server i for a block in a session
unfoldable pub payload_to : SessionParams → List ℕ → ℕ → ℕ → List ℕ
payload_to p coins block i = payload_in (scheme_of p.scheme) p coins block i

-- the vector of the query to server i for block v of the list, counted from 0: each block has coins of its own
abbrev pub vector_at : SessionParams → List ℕ → List ℕ → ℕ → ℕ → List ℕ
vector_at p coins blocks i v = payload_to p (piece (query_coins p) v coins) (slice_index blocks v) i

-- the payload of the query to server i for all blocks, by the coins of the queries
abbrev pub payload_for : SessionParams → List ℕ → List ℕ → ℕ → List ℕ
payload_for p coins blocks i = in_turn (length blocks) (vector_at p coins blocks i)

-- the frame that server i is sent: a function of the plan, the blocks, the coins and i alone
unfoldable pub sent : FetchPlan → List ℕ → List ℕ → ℕ → List ℕ
sent p blocks coins i =
    query_header (header_to p (length blocks) coins i)
    ++ payload_for (query_params p (length blocks) (session_number coins)) (queries_from coins) blocks i

-- the header of the query to server i
abbrev pub header_of : Queries → ℕ → List ℕ
header_of q i = query_header (header_to q.plan (length q.blocks) q.coins i)

-- the payload of the query to server i
abbrev pub payload_of : Queries → ℕ → List ℕ
payload_of q i = payload_for (query_params q.plan 1 0) (queries_from q.coins) q.blocks i

-- the address of the server at a place, counted from 0
abbrev pub address_at : Queries → ℕ → List ℕ
address_at q place = slice_index_or q.addresses place []

-- the frame that it is sent
abbrev pub frame_at : Queries → ℕ → List ℕ
frame_at q place = sent q.plan q.blocks q.coins (place + 1)
