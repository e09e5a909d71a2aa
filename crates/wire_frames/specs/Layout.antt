-- The parts of a session file that are numbers: its header, and what stands before the bytes of a
-- record.
use Rattle.std.specs.Prelude.{◌≡◌, ℕ, ◌≤◌, List, ◌∷◌, Option, Some, None, IfSome}
use Rattle.std.specs.Int.{bytes_high_first}
use Rattle.wire_frames.specs.declared.session.SessionParams.{SessionParams}
use Rattle.wire_frames.specs.Limits.{IsInRange}
use Rattle.wire_frames.specs.Session.{header_bytes}

-- these bytes are the header of a session with these numbers
pub record IsHeader (bytes : List ℕ) (params : SessionParams) : Type 0 where
  pub range : IsInRange params
  pub spelled : bytes ≡ header_bytes params

-- what stands before the bytes of record i: its index, whether it is present, and its length
abbrev pub record_header : ℕ → Option ℕ → List ℕ
record_header i None = i ∷ 0 ∷ bytes_high_first 4 0
record_header i (Some len) = i ∷ 1 ∷ bytes_high_first 4 len

-- these bytes are the header of record i, with at most so many bytes behind it
pub record IsRecordHeader (i most : ℕ) (bytes : List ℕ) (len : Option ℕ) : Type 0 where
  pub short : IfSome len (λ n. n ≤ most)
  pub spelled : bytes ≡ record_header i len
