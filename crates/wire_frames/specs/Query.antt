-- The header of a query, and what a reading of one answers.
use Rattle.std.specs.Prelude.{◌≡◌, ℕ, ◌<◌, ◌≤◌, List, take, drop, get_or, Result, Ok, Err}
use Rattle.wire_frames.specs.declared.field.Number.{Number}
use Rattle.wire_frames.specs.declared.header.QueryHeader.{QueryHeader}
use Rattle.wire_frames.specs.declared.query.Field.{Field}
use Rattle.wire_frames.specs.declared.query.Field.TheVariants.{Magic, Version, Scheme, Index, Zero, Count, Rows, Width}
use Rattle.wire_frames.specs.declared.query.FrameFault.{FrameFault}
use Rattle.wire_frames.specs.declared.places.TheConstants.{FRAME_MAGIC_PLACE, FRAME_VERSION_PLACE, FRAME_SCHEME_PLACE, FRAME_INDEX_PLACE, FRAME_STATUS_PLACE, FRAME_SESSION_PLACE, FRAME_ROWS_PLACE, FRAME_WIDTH_PLACE}
use Rattle.wire_frames.specs.declared.sizes.TheConstants.{FRAME_HEADER_LEN}
use Rattle.wire_frames.specs.Field.{IsNumber}
use Rattle.wire_frames.specs.Form.{StopsAt, StopsWithin}
use Rattle.wire_frames.specs.Header.{query_header}
use Rattle.wire_frames.specs.Limits.{IsQuery}
use Rattle.wire_frames.specs.Version.{count_name, version_of}

-- these bytes are the header of this query
pub record IsQueryHeader (bytes : List ℕ) (q : QueryHeader) : Type 0 where
  pub range : IsQuery q
  pub spelled : bytes ≡ query_header q

-- the first place of a field
abbrev pub first_place : Field → ℕ
first_place Magic = FRAME_MAGIC_PLACE
first_place Version = FRAME_VERSION_PLACE
first_place Scheme = FRAME_SCHEME_PLACE
first_place Index = FRAME_INDEX_PLACE
first_place Zero = FRAME_STATUS_PLACE
first_place Count = FRAME_STATUS_PLACE
first_place Rows = FRAME_ROWS_PLACE
first_place Width = FRAME_WIDTH_PLACE

-- the place behind a field
abbrev pub end_place : Field → ℕ
end_place Magic = FRAME_VERSION_PLACE
end_place Version = FRAME_SCHEME_PLACE
end_place Scheme = FRAME_INDEX_PLACE
end_place Index = FRAME_STATUS_PLACE
end_place Zero = FRAME_SESSION_PLACE
end_place Count = FRAME_SESSION_PLACE
end_place Rows = FRAME_WIDTH_PLACE
end_place Width = FRAME_HEADER_LEN

-- the bytes begin a query's header up to the fault's place and not further, and that place is in
-- the fault's field, whose name is that of the bytes' version where it says for how many blocks
pub record IsFault (bytes : List ℕ) (fault : FrameFault) : Type 0 where
  pub stops : StopsAt IsQueryHeader bytes fault.place
  pub after : first_place fault.field ≤ fault.place
  pub before : fault.place < end_place fault.field
  pub named : fault.place ≡ FRAME_STATUS_PLACE → fault.field ≡ count_name (version_of (get_or bytes FRAME_VERSION_PLACE 0))

-- what a reading answers: the query whose header the bytes are, or a fault
abbrev pub ReadsQuery : List ℕ → Result QueryHeader FrameFault → Type 0
ReadsQuery bytes (Ok q) = IsQueryHeader bytes q
ReadsQuery bytes (Err fault) = IsFault bytes fault × ((q : QueryHeader) → IsQueryHeader bytes q → ⊥)

-- the same of the number of one field
abbrev pub ReadsField : Number → Field → List ℕ → Result ℕ FrameFault → Type 0
ReadsField number field bytes (Ok value) =
    IsNumber number (take number.width (drop (first_place field) bytes)) value
ReadsField number field bytes (Err fault) =
    StopsWithin (IsNumber number) (first_place field) number.width bytes fault.place
    × (fault.field ≡ field)
