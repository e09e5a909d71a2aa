-- What a reader of a session has seen, and what each call makes of it.
use Rattle.std.specs.Prelude.{◌≡◌, ℕ, ◌<◌, ◌≤◌, List, ◌++◌, length, Result, Ok, Err}
use Rattle.wire_frames.specs.declared.sizes.TheConstants.{SESSION_HEADER_LEN}
use Rattle.wire_frames.specs.Session.{Transcript, IsSession}
use Rattle.wire_frames.specs.Beginning.{Begins, IsPlace}
use Rattle.wire_frames.specs.declared.reader.FeedFault.{FeedFault}
use Rattle.wire_frames.specs.declared.reader.FeedFault.TheVariants.{BadSession, Memory}
use Rattle.wire_frames.specs.declared.reader.BadSession.{BadSession as SessionFault}

-- the bytes so far, or the place at which they were refused for good
pub data Reading : Type 0 where
  SoFar : List ℕ → Reading
  Refused : ℕ → Reading

-- what `feed` answers to a piece, and what the reader has seen then
abbrev pub Feeds : Reading → List ℕ → Result (Unit {0}) FeedFault → Reading → Type 0
Feeds (Refused place) piece result new = (result ≡ Err (BadSession place)) × (new ≡ Refused place)
Feeds (SoFar bytes) piece (Ok _) new = Begins (bytes ++ piece) × (new ≡ SoFar (bytes ++ piece))
Feeds (SoFar bytes) piece (Err (BadSession place)) new =
    IsPlace (bytes ++ piece) place × (place < length (bytes ++ piece)) × (new ≡ Refused place)
Feeds (SoFar bytes) piece (Err Memory) new =
    (new ≡ SoFar bytes)
    × (length bytes < SESSION_HEADER_LEN) × (SESSION_HEADER_LEN ≤ length (bytes ++ piece))

-- what `end` answers
abbrev pub Ends : Reading → Result Transcript SessionFault → Type 0
Ends (Refused place) result = result ≡ Err (record { place = place })
Ends (SoFar bytes) (Ok session) = IsSession bytes session
Ends (SoFar bytes) (Err fault) =
    IsPlace bytes fault.place × (fault.place ≡ length bytes)
    × ((session : Transcript) → IsSession bytes session → ⊥)
