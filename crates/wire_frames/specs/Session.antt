-- A session file: what a client asked for, and the bytes that each server answered.
use Rattle.std.specs.Prelude.{◌≡◌, ℕ, ◌+◌, ◌*◌, ◌<◌, ◌≤◌, List, [], ◌∷◌, ◌++◌, length, codes, Option, Some, None, All, IfSome}
use Rattle.std.specs.Int.{bytes_high_first}
use Rattle.wire_frames.specs.Sizes.{answer_len}
use Rattle.wire_frames.specs.Version.{count_byte, version_of}
use Rattle.wire_frames.specs.declared.session.SessionParams.{SessionParams}
use Rattle.wire_frames.specs.Limits.{IsInRange}
use Rattle.wire_frames.specs.Records.{Kept}

-- the numbers of a session, and a record for each server so far: the bytes that came, or none where
-- a call failed
pub record Transcript : Type 0 where
  pub params : SessionParams
  pub records : List (Option (List ℕ))

-- the header: `PIRS`, the version, scheme, degree, agreement and servers, for how many blocks it asks,
-- in version 1 a 0, two zeros, and session, rows and width
abbrev pub header_bytes : SessionParams → List ℕ
header_bytes p =
    codes "PIRS" ++ (p.version ∷ p.scheme ∷ p.t ∷ p.h ∷ p.n ∷ count_byte (version_of p.version) p.count ∷ 0 ∷ 0 ∷ [])
    ++ bytes_high_first 8 p.session ++ bytes_high_first 4 p.r ++ bytes_high_first 4 p.s

-- record i: its index, whether it is present, its length, and its bytes
abbrev pub record_bytes : ℕ → Option (List ℕ) → List ℕ
record_bytes i None = i ∷ 0 ∷ bytes_high_first 4 0
record_bytes i (Some bytes) = (i ∷ 1 ∷ bytes_high_first 4 (length bytes)) ++ bytes

-- the records from number i on
abbrev pub records_bytes : ℕ → List (Option (List ℕ)) → List ℕ
records_bytes i [] = []
records_bytes i (x ∷ xs) = record_bytes i x ++ records_bytes (i + 1) xs

-- the whole file
abbrev pub session_bytes : Transcript → List ℕ
session_bytes t = header_bytes t.params ++ records_bytes 1 t.records

-- a record has at most so many bytes, each below 256
abbrev pub Fits : ℕ → Option (List ℕ) → Type 0
Fits most x = IfSome x (λ bytes. (length bytes ≤ most) × All (λ b. b < 256) bytes)

-- these bytes are the file of this session
pub record IsSession (bytes : List ℕ) (t : Transcript) : Type 0 where
  pub range : IsInRange t.params
  pub all : length t.records ≡ t.params.n
  pub fits : All (Fits (answer_len t.params.count t.params.s)) t.records
  pub spelled : bytes ≡ session_bytes t

-- the records of a session so far: none is begun, and there is room for all that may come
pub record IsUnderWay (p : SessionParams) (k : Kept) : Type 0 where
  pub range : IsInRange p
  pub few : length k.closed ≤ p.n
  pub fits : All (Fits (answer_len p.count p.s)) k.closed
  pub none_begun : k.current ≡ []
  pub record_room : p.n ≤ length k.closed + k.record_room
  pub byte_room : p.n * answer_len p.count p.s ≤ length k.closed * answer_len p.count p.s + k.byte_room
