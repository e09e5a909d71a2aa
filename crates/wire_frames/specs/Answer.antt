-- The usable answers of a session.
use Rattle.std.specs.Prelude.{ℕ, ◌+◌, ◌*◌, List, [], ◌∷◌, length, take, drop, Option, Some, None, ◌==◌, ◌&&◌, if◌then◌else◌, bytes_eq}
use Rattle.wire_frames.specs.Sizes.{answer_len}
use Rattle.wire_frames.specs.declared.sizes.TheConstants.{FRAME_HEADER_LEN}
use Rattle.wire_frames.specs.declared.header.QueryHeader.{QueryHeader}
use Rattle.wire_frames.specs.declared.session.SessionParams.{SessionParams}
use Rattle.wire_frames.specs.Header.{answer_header}
use Rattle.wire_frames.specs.Session.{Transcript}

-- the payload, where the bytes are an answer of status 0 to the query with this header: the header
-- of that answer, and exactly s bytes for each block
abbrev pub usable : List ℕ → QueryHeader → Option (List ℕ)
usable bytes q =
    if bytes_eq (take FRAME_HEADER_LEN bytes) (answer_header q 0) && (length bytes == answer_len q.count q.s)
    then Some (drop FRAME_HEADER_LEN bytes) else None

-- how many bytes the blocks that a session asks for have together
abbrev pub block_len : SessionParams → ℕ
block_len p = p.count * p.s

-- what one server answered: its index, and its payload
pub record Answer : Type 0 where
  pub index : ℕ
  pub payload : List ℕ

-- the header that server i was asked with
abbrev pub asked : SessionParams → ℕ → QueryHeader
asked p i = record {
  version = p.version;
  scheme = p.scheme;
  index = i;
  count = p.count;
  session = p.session;
  r = p.r;
  s = p.s;
}

-- the answers with that of server i before them, where it is usable
abbrev pub with_answer : ℕ → Option (List ℕ) → List Answer → List Answer
with_answer i None rest = rest
with_answer i (Some payload) rest = record { index = i; payload = payload } ∷ rest

-- the usable answers among the records from number i on
abbrev pub answers_from : ℕ → SessionParams → List (Option (List ℕ)) → List Answer
answers_from i p [] = []
answers_from i p (None ∷ records) = answers_from (i + 1) p records
answers_from i p (Some bytes ∷ records) =
    with_answer i (usable bytes (asked p i)) (answers_from (i + 1) p records)

-- the usable answers of a session, in the order of their indices
abbrev pub answers : Transcript → List Answer
answers t = answers_from 1 t.params t.records
