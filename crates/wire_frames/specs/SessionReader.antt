-- The states of a reader of sessions.
use Rattle.std.specs.Prelude.{◌≡◌, ℕ, ◌<◌, ◌≤◌, List, ◌++◌, length, Option, Some, None, Result, Ok, Err}
use Rattle.wire_frames.specs.declared.sizes.TheConstants.{SESSION_HEADER_LEN}
use Rattle.wire_frames.specs.declared.records_reader.RecordsReader.{RecordsReader}
use Rattle.wire_frames.specs.declared.reader.State.{State}
use Rattle.wire_frames.specs.declared.reader.State.TheVariants.{Header, Records, Stopped}
use Rattle.wire_frames.specs.declared.reader.Stop.{Stop}
use Rattle.wire_frames.specs.declared.reader.Stop.TheVariants.{Wrong, Memory}
use Rattle.wire_frames.specs.Form.{Starts}
use Rattle.wire_frames.specs.Layout.{IsHeader}
use Rattle.wire_frames.specs.Reading.{Reading, SoFar, Refused}
use Rattle.wire_frames.specs.RecordsReader.{IsOpen, Refuses, bytes_so_far}
use Rattle.wire_frames.specs.Session.{IsSession}

-- what a reader has seen that took so many bytes and is in this state
abbrev pub reading_of : ℕ → State → Reading
reading_of taken (Header head) = SoFar head
reading_of taken (Records r) = SoFar (bytes_so_far r)
reading_of taken Stopped = Refused taken

-- a state has seen these bytes, and they are right
abbrev pub Sees : State → List ℕ → Type 0
Sees (Header head) bytes =
    (head ≡ bytes) × (length head < SESSION_HEADER_LEN) × Starts IsHeader head
Sees (Records r) bytes = (bytes_so_far r ≡ bytes) × IsOpen r
Sees Stopped bytes = ⊥

-- what a state has seen is right, or it is stopped
abbrev pub IsRight : State → Type 0
IsRight (Header head) = Sees (Header head) head
IsRight (Records r) = Sees (Records r) (bytes_so_far r)
IsRight Stopped = Unit {0}

-- as many bytes were taken as the state has seen
abbrev pub IsSound : ℕ → State → Type 0
IsSound taken (Header head) = (taken ≡ length head) × Sees (Header head) head
IsSound taken (Records r) = (taken ≡ length (bytes_so_far r)) × Sees (Records r) (bytes_so_far r)
IsSound taken Stopped = Unit {0}

-- what a part of a header makes of a piece: it goes on, or the records begin
abbrev pub FeedsHeader : List ℕ → List ℕ → Result (Option RecordsReader) Stop → List ℕ → Type 0
FeedsHeader old piece (Ok None) new =
    (new ≡ old ++ piece) × (length new < SESSION_HEADER_LEN) × Starts IsHeader new
FeedsHeader old piece (Ok (Some r)) new =
    IsOpen r × (bytes_so_far r ≡ old ++ piece) × Starts IsSession (bytes_so_far r)
FeedsHeader old piece (Err (Wrong right)) new = Refuses old piece right
FeedsHeader old piece (Err Memory) new = (new ≡ old) × (SESSION_HEADER_LEN ≤ length (old ++ piece))

-- what a state that has seen these bytes makes of a piece
abbrev pub TakesPiece : State → List ℕ → List ℕ → Result (Unit {0}) Stop → State → Type 0
TakesPiece old bytes piece (Ok _) new = Sees new (bytes ++ piece)
TakesPiece old bytes piece (Err (Wrong right)) new = Refuses bytes piece right
TakesPiece old bytes piece (Err Memory) new =
    (new ≡ old)
    × (length bytes < SESSION_HEADER_LEN) × (SESSION_HEADER_LEN ≤ length (bytes ++ piece))

-- what any state does
abbrev pub FeedsState : State → List ℕ → Result (Unit {0}) Stop → State → Type 0
FeedsState (Header head) piece result new = TakesPiece (Header head) head piece result new
FeedsState (Records r) piece result new = TakesPiece (Records r) (bytes_so_far r) piece result new
FeedsState Stopped piece result new = result ≡ Err (Wrong 0)
