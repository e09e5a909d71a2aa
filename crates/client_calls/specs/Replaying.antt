-- A recorded session is judged, and the text of its verdict written where the caller has room for it.
use Rattle.std.specs.Prelude.{ℕ, ◌≡◌, ◌<◌, ◌≤◌, ◌++◌, List, length, drop, Result, Ok, Err}
use Rattle.wire_frames.specs.declared.sizes.TheConstants.{SESSION_HEADER_LEN}
use Rattle.wire_frames.specs.declared.reader.FeedFault.{FeedFault}
use Rattle.wire_frames.specs.declared.reader.FeedFault.TheVariants.{BadSession as Wrong, Memory as NoMemory}
use Rattle.wire_frames.specs.declared.reader.BadSession.{BadSession as SessionFault}
use Rattle.wire_frames.specs.Beginning.{IsPlace}
use Rattle.wire_frames.specs.Session.{Transcript, IsSession}
use Rattle.block_decoder.specs.Text.{text}
use Rattle.block_decoder.specs.Verdict.{IsVerdict}
use Rattle.block_decoder.specs.declared.verdict.Verdict.{Verdict}
use Rattle.client_calls.specs.declared.replaying.ReplayRefusal.{ReplayRefusal}
use Rattle.client_calls.specs.declared.replaying.ReplayRefusal.TheVariants.{BadSession, Room, Memory}

-- the refusal that a fault in taking the bytes is
abbrev pub of_feed : FeedFault → ReplayRefusal
of_feed (Wrong place) = BadSession place
of_feed NoMemory = Memory

-- and that of one at their end
abbrev pub of_end : SessionFault → ReplayRefusal
of_end fault = BadSession fault.place

-- the bytes are no session: they stop to begin one at this place
pub record NoSession (bytes : List ℕ) (place : ℕ) : Type 0 where
  pub place_is : IsPlace bytes place
  pub none : (session : Transcript) → IsSession bytes session → ⊥

-- memory is taken for what follows a session's header, so the bytes have as many as one
abbrev pub MayLackMemory : List ℕ → Type 0
MayLackMemory bytes = SESSION_HEADER_LEN ≤ length bytes

-- the session that the bytes are, or why there is none
abbrev pub ReadsSession : List ℕ → Result Transcript ReplayRefusal → Type 0
ReadsSession bytes (Ok session) = IsSession bytes session
ReadsSession bytes (Err (BadSession place)) = NoSession bytes place
ReadsSession bytes (Err (Room wanted)) = ⊥
ReadsSession bytes (Err Memory) = MayLackMemory bytes

-- the bytes are a session that has this verdict
pub record IsReplay (bytes : List ℕ) (verdict : Verdict) : Type 0 where
  pub session : Transcript
  pub whole : IsSession bytes session
  pub judged : IsVerdict session verdict

-- the bytes are a session whose verdict has a text of so many bytes, and there is less room
pub record LacksTextRoom (bytes room : List ℕ) (wanted : ℕ) : Type 0 where
  pub verdict : Verdict
  pub is : IsReplay bytes verdict
  pub wanted_is : wanted ≡ length (text verdict)
  pub short : length room < wanted

-- why no text is written: the bytes are no session, or there is less room than for it; or there was no memory
abbrev pub RefusesReplay : List ℕ → List ℕ → ReplayRefusal → Type 0
RefusesReplay bytes room (BadSession place) = NoSession bytes place
RefusesReplay bytes room (Room wanted) = LacksTextRoom bytes room wanted
RefusesReplay bytes room Memory = MayLackMemory bytes

-- the bytes are a session, its verdict's text is written at the front of the room, and its length is told; what is
-- refused leaves the room as it was
abbrev pub ReplaysInto : List ℕ → List ℕ → List ℕ → Result (Verdict × ℕ) ReplayRefusal → Type 0
ReplaysInto bytes old new (Ok found) = IsReplay bytes found.0 × (found.1 ≡ length (text found.0)) × (found.1 ≤ length old)
    × (new ≡ text found.0 ++ drop found.1 old)
ReplaysInto bytes old new (Err refusal) = RefusesReplay bytes old refusal × (new ≡ old)
