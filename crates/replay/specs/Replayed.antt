-- What reading a recorded session from Input, and judging it, does and gives.
use Rattle.std.specs.Prelude.{◌≤◌, ◌+◌, ◌⊎◌, length, Some, ◌≡◌, ℕ, List, Option, IfSome, Result, Ok, Err}
use Rattle.port_trait.specs.World.{Cell, World}
use Rattle.port_trait.specs.Number.{INPUT}
use Rattle.port_trait.specs.Moves.{RoseOnce, took, counted}
use Rattle.port_trait.specs.Whole.{IsPrefix}
use Rattle.wire_frames.specs.declared.scheme.TheConstants.{SHAMIR, XOR}
use Rattle.wire_frames.specs.declared.sizes.TheConstants.{SESSION_HEADER_LEN}
use Rattle.wire_frames.specs.declared.session.SessionParams.{SessionParams}
use Rattle.wire_frames.specs.Session.{Transcript, IsSession}
use Rattle.wire_frames.specs.Beginning.{Begins, IsPlace}
use Rattle.wire_frames.specs.Answer.{answers, block_len}
use Rattle.block_decoder.specs.Report.{Agreement}
use Rattle.block_decoder.specs.Reported.{IsReportOn}
use Rattle.block_decoder.specs.Verdict.{IsVerdict, least_coefficients, least_columns}
use Rattle.block_decoder.specs.declared.verdict.Verdict.{Verdict}
use Rattle.replay.specs.declared.TheConstants.{PIECE_LEN}
use Rattle.replay.specs.declared.ReplayFault.{ReplayFault}
use Rattle.replay.specs.declared.ReplayFault.TheVariants.{ReadFault, BadSession, Memory}

-- the bytes spell this session
abbrev pub Spells : Transcript → List ℕ → Type 0
Spells session bytes = IsSession bytes session

-- the bytes spell some session
abbrev pub SpellsOne : List ℕ → Type 0
SpellsOne bytes = (session : Transcript) × Spells session bytes

-- the bytes are a session that has this verdict
pub record Judged (verdict : Verdict) (bytes : List ℕ) : Type 0 where
  pub session : Transcript
  pub whole : IsSession bytes session
  pub judged : IsVerdict session verdict

-- the bytes are this session, which has this verdict, and this report beside it
pub record JudgedWhole (found : Transcript × Verdict × Option (List Agreement)) (bytes : List ℕ) : Type 0 where
  pub whole : IsSession bytes found.0
  pub judged : IsVerdict found.0 found.1
  pub report : IsReportOn found.0 found.1 found.2

-- the bytes are no session: they stop to begin one at this place
pub record NoSession (place : ℕ) (bytes : List ℕ) : Type 0 where
  pub place_is : IsPlace bytes place
  pub none : (session : Transcript) → IsSession bytes session → ⊥

-- the port was read to its end, and P holds of all that it held
pub record ReadsWhole (P : List ℕ → Type 0) (old new : Cell) : Type 0 where
  pub read : List ℕ
  pub cell : new ≡ took (length read) old
  pub all : IfSome old.holds (λ held. read ≡ held)
  pub is : P read

-- the port was read until it was seen that it holds no session: to this place, and no more than one piece past it
pub record Refuses (place : ℕ) (old new : Cell) : Type 0 where
  pub read : List ℕ
  pub cell : new ≡ took (length read) old
  pub prefix : IfSome old.holds (IsPrefix read)
  pub wrong : NoSession place read
  pub least : place ≤ length read
  pub most : length read ≤ place + PIECE_LEN
  pub none : IfSome old.holds (NoSession place)

-- the port handed out what begins a session, and then a call on it failed
pub record BreaksOff (old new : Cell) : Type 0 where
  pub read : List ℕ
  pub begins : Begins read
  pub cell : new ≡ counted new.faults (took (length read) old)
  pub prefix : IfSome old.holds (IsPrefix read)
  pub rose : RoseOnce old.faults new.faults

-- the port was read no further than a session's header and one piece
pub record ReadsLittle (old new : Cell) : Type 0 where
  pub read : List ℕ
  pub cell : new ≡ took (length read) old
  pub prefix : IfSome old.holds (IsPrefix read)
  pub few : length read ≤ SESSION_HEADER_LEN + PIECE_LEN

-- Input was read: what it held is P of the result; or it is no session; or a call on Input failed; or memory ran out,
-- early or when a whole session was read
abbrev pub ReadTo : {T : Type 0} → (T → List ℕ → Type 0) → Result T ReplayFault → World → World → Type 0
ReadTo P (Ok x) old new = ReadsWhole (P x) (old.at INPUT) (new.at INPUT)
ReadTo P (Err (BadSession place)) old new = Refuses place (old.at INPUT) (new.at INPUT)
ReadTo P (Err ReadFault) old new = BreaksOff (old.at INPUT) (new.at INPUT)
ReadTo P (Err Memory) old new =
    ReadsLittle (old.at INPUT) (new.at INPUT) ⊎ ReadsWhole SpellsOne (old.at INPUT) (new.at INPUT)

-- where this held a session no more steps are counted than judging it takes, and none in the XOR scheme; where it
-- held no session, none. `bound` bounds these steps for so many answers, a degree, an agreement and a width
pub record ReplayCounts (bound : ℕ → ℕ → ℕ → ℕ → ℕ) (held : Option (List ℕ)) (before now : ℕ) : Type 0 where
  pub most : (bytes : List ℕ) (session : Transcript) → held ≡ Some bytes → IsSession bytes session
      → now ≤ before + bound (length (answers session)) session.params.t session.params.h (block_len session.params)
  pub xor : (bytes : List ℕ) (session : Transcript) → held ≡ Some bytes → IsSession bytes session
      → session.params.scheme ≡ XOR → now ≡ before
  pub none : (bytes : List ℕ) → held ≡ Some bytes → (SpellsOne bytes → ⊥) → now ≡ before

-- where this held a session of Shamir's scheme, no fewer steps are counted than its verdict takes at least
abbrev pub CountsLeast : (SessionParams → Verdict → ℕ) → Option (List ℕ) → ℕ → ℕ → Verdict → Type 0
CountsLeast least held before now verdict = (bytes : List ℕ) (session : Transcript) → held ≡ Some bytes
    → IsSession bytes session → session.params.scheme ≡ SHAMIR → before + least session.params verdict ≤ now

-- no fewer columns than a listing takes
abbrev pub CountsListed : Option (List ℕ) → ℕ → ℕ → Verdict → Type 0
CountsListed = CountsLeast (λ params. least_columns (block_len params))

-- and no fewer coefficients than a listing of several blocks
abbrev pub FixesIn : Option (List ℕ) → ℕ → ℕ → Verdict → Type 0
FixesIn = CountsLeast (λ params. least_coefficients params.t)

-- where nothing is judged no step is counted
abbrev pub CountsNone : {T : Type 0} → Result T ReplayFault → ℕ → ℕ → Type 0
CountsNone (Ok found) before now = Unit {0}
CountsNone (Err (BadSession place)) before now = now ≡ before
CountsNone (Err ReadFault) before now = now ≡ before
CountsNone (Err Memory) before now = Unit {0}
