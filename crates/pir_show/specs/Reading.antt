-- What the reading of a session answers.
use Rattle.std.specs.Prelude.{ℕ, List, Option, Some, None, Result, Ok, Err}
use Rattle.wire_frames.specs.declared.reader.BadSession.{BadSession as SessionFault}
use Rattle.wire_frames.specs.declared.reader.FeedFault.{FeedFault}
use Rattle.wire_frames.specs.declared.reader.FeedFault.TheVariants.{BadSession, Memory as NoMemory}
use Rattle.wire_frames.specs.Beginning.{IsPlace}
use Rattle.wire_frames.specs.Session.{Transcript, IsSession}
use Rattle.pir_show.specs.declared.fault.Fault.{Fault}
use Rattle.pir_show.specs.declared.fault.Fault.TheVariants.{Usage, ReadFault, WriteFault, BadInput, Memory}

-- a fault of the reader of sessions, as a piece is fed
abbrev pub of_feed : FeedFault → Fault
of_feed (BadSession place) = BadInput place
of_feed NoMemory = Memory

-- the same at the end
abbrev pub of_end : SessionFault → Fault
of_end fault = BadInput fault.place

-- the bytes are no session: they stop to begin one at this place
pub record NoSession (bytes : List ℕ) (place : ℕ) : Type 0 where
  pub place_is : IsPlace bytes place
  pub none : (session : Transcript) → IsSession bytes session → ⊥

-- what reading these bytes answers: the session that they are, or the place where they aren't one; or a fault of reading,
-- or want of memory
abbrev pub IsReadAs : List ℕ → Result Transcript Fault → Type 0
IsReadAs bytes (Ok session) = IsSession bytes session
IsReadAs bytes (Err (BadInput place)) = NoSession bytes place
IsReadAs bytes (Err ReadFault) = Unit {0}
IsReadAs bytes (Err Memory) = Unit {0}
IsReadAs bytes (Err Usage) = ⊥
IsReadAs bytes (Err WriteFault) = ⊥

-- the same of what a source has left, where that is known
abbrev pub ReadsAs : Option (List ℕ) → Result Transcript Fault → Type 0
ReadsAs None result = Unit {0}
ReadsAs (Some bytes) result = IsReadAs bytes result
