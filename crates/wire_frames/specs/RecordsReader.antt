-- The records of a session as they come in pieces.
use Rattle.std.specs.Prelude.{◌≡◌, ℕ, ◌+◌, ◌*◌, ◌<◌, ◌≤◌, ◌⊎◌, List, [], ◌++◌, length, take, Some, Result, Ok, Err, All}
use Rattle.wire_frames.specs.Sizes.{answer_len}
use Rattle.wire_frames.specs.declared.sizes.TheConstants.{RECORD_HEADER_LEN}
use Rattle.wire_frames.specs.declared.records_reader.RecordsReader.{RecordsReader}
use Rattle.wire_frames.specs.Form.{Starts}
use Rattle.wire_frames.specs.Layout.{IsRecordHeader, record_header}
use Rattle.wire_frames.specs.Limits.{IsInRange}
use Rattle.wire_frames.specs.Session.{IsSession, Fits, session_bytes}

-- the bytes so far: the header of the session, the records that are whole, and what has come of the
-- next
abbrev pub bytes_so_far : RecordsReader → List ℕ
bytes_so_far r =
    session_bytes (record { params = r.params; records = r.records.closed })
    ++ (r.head ++ r.records.current)

-- the most bytes that a record has
abbrev pub record_len : RecordsReader → ℕ
record_len r = answer_len r.params.count r.params.s

-- there is room for what is to come, and what has come is in range
pub record IsSteady (r : RecordsReader) : Type 0 where
  pub range : IsInRange r.params
  pub few : length r.records.closed ≤ r.params.n
  pub fits : All (Fits (record_len r)) r.records.closed
  pub below : All (λ b. b < 256) r.records.current
  pub record_room : r.params.n ≤ length r.records.closed + r.records.record_room
  pub byte_room : r.params.n * record_len r
      ≤ length r.records.closed * record_len r + (length r.records.current + r.records.byte_room)

-- less than the header of the next record has come, or all records have
pub record IsInHeader (r : RecordsReader) : Type 0 where
  pub none_left : r.left ≡ 0
  pub none_begun : r.records.current ≡ []
  pub short : length r.head < RECORD_HEADER_LEN
  pub right : length r.records.closed < r.params.n
      → Starts (IsRecordHeader (1 + length r.records.closed) (record_len r)) r.head
  pub nothing : length r.records.closed ≡ r.params.n → r.head ≡ []

-- the header of the next record has come, and so many of its bytes are left
pub record IsInBytes (r : RecordsReader) : Type 0 where
  pub header : r.head
      ≡ record_header (1 + length r.records.closed) (Some (length r.records.current + r.left))
  pub few : length r.records.closed < r.params.n
  pub most : length r.records.current + r.left ≤ record_len r

-- a reader between two pieces
pub record IsOpen (r : RecordsReader) : Type 0 where
  pub steady : IsSteady r
  pub part : IsInHeader r ⊎ (IsInBytes r × (0 < r.left))

-- so many bytes of a piece are right behind these bytes, and no more
pub record Refuses (bytes piece : List ℕ) (right : ℕ) : Type 0 where
  pub before : right < length piece
  pub begins : Starts IsSession (bytes ++ take right piece)
  pub longest : Starts IsSession (bytes ++ take (right + 1) piece) → ⊥

-- how many bytes are taken from the start of a piece, or how many of it are right
abbrev pub Advances : List ℕ → List ℕ → Result ℕ ℕ → List ℕ → Type 0
Advances old piece (Ok count) new =
    (0 < count) × (count ≤ length piece) × (new ≡ old ++ take count piece)
Advances old piece (Err right) new = Refuses old piece right

-- a piece is taken whole, or how many bytes of it are right
abbrev pub FeedsOn : List ℕ → List ℕ → Result (Unit {0}) ℕ → List ℕ → Type 0
FeedsOn old piece (Ok _) new = (new ≡ old ++ piece) × Starts IsSession new
FeedsOn old piece (Err right) new = Refuses old piece right
