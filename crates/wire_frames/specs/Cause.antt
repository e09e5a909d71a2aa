-- Why an answer isn't usable.
use Rattle.std.specs.Prelude.{◌≡◌, ◌≢◌, ◌<◌, ℕ, Bool, true, List, length, take, slice_index, slice_range, Option, Some, None, is_some, not, nat_lt, ◌==◌, if◌then◌else◌, bytes_eq}
use Rattle.wire_frames.specs.declared.cause.AnswerField.{AnswerField}
use Rattle.wire_frames.specs.declared.cause.AnswerField.TheVariants.{Magic, Version, Scheme, Index, Session, Rows, Width}
use Rattle.wire_frames.specs.declared.cause.Cause.{Cause}
use Rattle.wire_frames.specs.declared.cause.Cause.TheVariants.{Usable, Cut, Other, Refused, Length}
use Rattle.wire_frames.specs.declared.header.QueryHeader.{QueryHeader}
use Rattle.wire_frames.specs.declared.places.TheConstants.{FRAME_MAGIC_PLACE, FRAME_VERSION_PLACE, FRAME_SCHEME_PLACE, FRAME_INDEX_PLACE, FRAME_STATUS_PLACE, FRAME_SESSION_PLACE, FRAME_ROWS_PLACE, FRAME_WIDTH_PLACE}
use Rattle.wire_frames.specs.declared.sizes.TheConstants.{FRAME_HEADER_LEN}
use Rattle.wire_frames.specs.Sizes.{answer_len}
use Rattle.wire_frames.specs.Answer.{usable}
use Rattle.wire_frames.specs.Header.{answer_header}

-- two headers are unlike from one place up to another
unfoldable pub is_other : List ℕ → List ℕ → ℕ → ℕ → Bool
is_other bytes right from to = not (bytes_eq (slice_range bytes from to) (slice_range right from to))

-- the first field in which a header isn't the right one, whatever its status
unfoldable pub other_field : List ℕ → List ℕ → Option AnswerField
other_field bytes right =
    if is_other bytes right FRAME_MAGIC_PLACE FRAME_VERSION_PLACE then Some Magic
    else (if is_other bytes right FRAME_VERSION_PLACE FRAME_SCHEME_PLACE then Some Version
    else (if is_other bytes right FRAME_SCHEME_PLACE FRAME_INDEX_PLACE then Some Scheme
    else (if is_other bytes right FRAME_INDEX_PLACE FRAME_STATUS_PLACE then Some Index
    else (if is_other bytes right FRAME_SESSION_PLACE FRAME_ROWS_PLACE then Some Session
    else (if is_other bytes right FRAME_ROWS_PLACE FRAME_WIDTH_PLACE then Some Rows
    else (if is_other bytes right FRAME_WIDTH_PLACE FRAME_HEADER_LEN then Some Width
    else None))))))

-- why an answer with this header isn't usable, by its first wrong field and its status
abbrev pub cause_by : Option AnswerField → ℕ → Cause
cause_by (Some field) status = Other field
cause_by None status = if status == 0 then Length else Refused status

-- the same, by that header and the one of the query
unfoldable pub header_fault : List ℕ → QueryHeader → Cause
header_fault start q = cause_by (other_field start (answer_header q 0)) (slice_index start FRAME_STATUS_PLACE)

-- why bytes that are no usable answer to the query with this header are none
unfoldable pub fault_of : List ℕ → QueryHeader → Cause
fault_of bytes q =
    if nat_lt (length bytes) FRAME_HEADER_LEN then Cut else header_fault (take FRAME_HEADER_LEN bytes) q

-- whether bytes are a usable answer to the query with this header, and if not, why
unfoldable pub cause : List ℕ → QueryHeader → Cause
cause bytes q = if is_some (usable bytes q) then Usable else fault_of bytes q

-- what each cause says of the bytes
abbrev pub Tells : Cause → List ℕ → QueryHeader → Type 0
Tells Usable bytes q = is_some (usable bytes q) ≡ true
Tells Cut bytes q = length bytes < FRAME_HEADER_LEN
Tells (Other field) bytes q = (status : ℕ) → take FRAME_HEADER_LEN bytes ≢ answer_header q status
Tells (Refused status) bytes q = (status ≢ 0) × (take FRAME_HEADER_LEN bytes ≡ answer_header q status)
Tells Length bytes q = (take FRAME_HEADER_LEN bytes ≡ answer_header q 0) × (length bytes ≢ answer_len q.count q.s)
