-- The bytes before the payload of a query and of an answer.
use Rattle.std.specs.Prelude.{ℕ, ◌-◌, List, [], ◌∷◌, ◌++◌, codes, take, drop, get_or}
use Rattle.std.specs.Int.{bytes_high_first}
use Rattle.wire_frames.specs.declared.header.QueryHeader.{QueryHeader}
use Rattle.wire_frames.specs.Version.{answer_version, count_byte, count_of, number_of, version_of}
use Rattle.wire_frames.specs.declared.places.TheConstants.{FRAME_VERSION_PLACE, FRAME_SCHEME_PLACE, FRAME_STATUS_PLACE, FRAME_SESSION_PLACE}

-- four letters, the version, scheme and index, the status, and session, rows and width
abbrev pub frame_header : List ℕ → QueryHeader → ℕ → List ℕ
frame_header magic q status =
    magic ++ (q.version ∷ q.scheme ∷ q.index ∷ status ∷ [])
    ++ bytes_high_first 8 q.session ++ bytes_high_first 4 q.r ++ bytes_high_first 4 q.s

-- the header of a query: `PIRQ`, and for the status how many blocks it asks for, in version 1 a 0
abbrev pub query_header : QueryHeader → List ℕ
query_header q = frame_header (codes "PIRQ") q (count_byte (version_of q.version) q.count)

-- for how many blocks the query with this header asks
abbrev pub blocks_in : List ℕ → ℕ
blocks_in header = count_of (get_or header FRAME_STATUS_PLACE 0)

-- the header of the answer with this status to a query with this header: `PIRA`, and the status
abbrev pub answer_header : QueryHeader → ℕ → List ℕ
answer_header q status = frame_header (codes "PIRA") q status

-- the header of the answer with this status to bytes that stand for a query's header, right or not:
-- `PIRA`, their version where it is 2 and else 1, their scheme and index, the status, and their bytes
-- from the session on
abbrev pub answer_to : List ℕ → ℕ → List ℕ
answer_to bytes status =
    let version = number_of (answer_version (get_or bytes FRAME_VERSION_PLACE 0)) in
    let scheme_and_index = take (FRAME_STATUS_PLACE - FRAME_SCHEME_PLACE) (drop FRAME_SCHEME_PLACE bytes) in
    codes "PIRA" ++ (version ∷ scheme_and_index) ++ (status ∷ drop FRAME_SESSION_PLACE bytes)
