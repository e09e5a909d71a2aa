-- What `replay FILE` and `replay --report FILE` do to the outside, by the status that they end with.
use Rattle.std.specs.Prelude.{◌≡◌, ◌⊎◌, ℕ, Bool, List, [], ◌∷◌, Option, Some}
use Rattle.port_trait.specs.World.{World}
use Rattle.port_trait.specs.Number.{INPUT, OUTPUT}
use Rattle.port_trait.specs.Moves.{gave, named, counted}
use Rattle.port_trait.specs.Touched.{One, TouchesOnly}
use Rattle.port_trait.specs.Whole.{FailsWithin}
use Rattle.wire_frames.specs.Session.{Transcript, IsSession}
use Rattle.block_decoder.specs.Report.{Agreement}
use Rattle.block_decoder.specs.Verdict.{IsVerdict}
use Rattle.block_decoder.specs.declared.verdict.Verdict.{Verdict}
use Rattle.replay.specs.Replayed.{BreaksOff, NoSession, ReadsLittle, ReadsWhole, Refuses, SpellsOne}
use Rattle.commands.specs.Table.{status_of}
use Rattle.commands.specs.Said.{IsBeside, ToldWhole, whole_text}
use Rattle.commands.specs.Told.{DidRiseOnce, NoneRose}
use Rattle.commands.specs.declared.status.Status.{Status}
use Rattle.commands.specs.declared.status.Status.TheVariants.{Usage, Absent, ReadFault, WriteFault, BadInput, DoorFault, ChildFault, Memory}
use Rattle.commands.specs.declared.status.Bad.TheVariants.{Session, EmptyFile, TooBig, CoinsEnded}

-- the bytes are this session, this is its verdict, and this the report beside it, where one is wanted
pub record Concluded (wanted : Bool) (session : Transcript) (verdict : Verdict) (report : Option (List Agreement))
    (bytes : List ℕ) : Type 0 where
  pub whole : IsSession bytes session
  pub judged : IsVerdict session verdict
  pub beside : IsBeside wanted session verdict report

-- the verdict on all that Input held, which was opened by this name, is written whole, with the report behind it where one is
-- wanted, and nothing else
pub record Reported (name : List ℕ) (wanted : Bool) (status : Status) (old new : World) : Type 0 where
  pub session : Transcript
  pub verdict : Verdict
  pub report : Option (List Agreement)
  pub status_is : status ≡ status_of verdict
  pub read : ReadsWhole (Concluded wanted session verdict report) (named name (old.at INPUT)) (new.at INPUT)
  pub written : new.at OUTPUT ≡ gave (whole_text session verdict report) (old.at OUTPUT)

-- a call on Output failed, which has taken a proper prefix of that text
pub record CutShort (name : List ℕ) (wanted : Bool) (old new : World) : Type 0 where
  pub session : Transcript
  pub verdict : Verdict
  pub report : Option (List Agreement)
  pub read : ReadsWhole (Concluded wanted session verdict report) (named name (old.at INPUT)) (new.at INPUT)
  pub written : FailsWithin OUTPUT (whole_text session verdict report) old new

-- Input holds no session, which was seen no more than a piece past the place, and nothing is written
pub record Refused (name : List ℕ) (place : ℕ) (old new : World) : Type 0 where
  pub read : Refuses place (named name (old.at INPUT)) (new.at INPUT)
  pub output : new.at OUTPUT ≡ old.at OUTPUT

-- Input can't be opened; or it was, and a call failed when what begins a session was taken. Nothing is written
pub record Unreadable (name : List ℕ) (old new : World) : Type 0 where
  pub input : (new.at INPUT ≡ counted (new.at INPUT).faults (old.at INPUT)) ⊎ BreaksOff (named name (old.at INPUT)) (new.at INPUT)
  pub rose : DidRiseOnce INPUT old new
  pub output : new.at OUTPUT ≡ old.at OUTPUT

-- memory ran out, early or when a whole session was read, and nothing is written
pub record Unfinished (name : List ℕ) (old new : World) : Type 0 where
  pub read : ReadsLittle (named name (old.at INPUT)) (new.at INPUT) ⊎ ReadsWhole SpellsOne (named name (old.at INPUT)) (new.at INPUT)
  pub output : new.at OUTPUT ≡ old.at OUTPUT

-- what `replay FILE` did, by its status
abbrev pub ReplayEnds : List ℕ → Bool → Status → World → World → Type 0
ReplayEnds name wanted Usage old new = ⊥
ReplayEnds name wanted Absent old new = ⊥
ReplayEnds name wanted ReadFault old new = Unreadable name old new
ReplayEnds name wanted WriteFault old new = CutShort name wanted old new
ReplayEnds name wanted (BadInput (Session place)) old new = Refused name place old new
ReplayEnds name wanted (BadInput EmptyFile) old new = ⊥
ReplayEnds name wanted (BadInput (TooBig limit)) old new = ⊥
ReplayEnds name wanted (BadInput (CoinsEnded taken)) old new = ⊥
ReplayEnds name wanted DoorFault old new = ⊥
ReplayEnds name wanted ChildFault old new = ⊥
ReplayEnds name wanted Memory old new = Unfinished name old new
ReplayEnds name wanted status old new = Reported name wanted status old new

-- Input and Output alone are touched
abbrev pub TouchesStreams : World → World → Type 0
TouchesStreams old new = TouchesOnly (One INPUT ∷ One OUTPUT ∷ []) old new

-- what `replay FILE` did, and that it did no more
pub record ReplayOutcome (name : List ℕ) (wanted : Bool) (status : Status) (old new : World) : Type 0 where
  pub ends : ReplayEnds name wanted status old new
  pub others : TouchesStreams old new

-- the verdict on this session is written whole, and is the status; behind it, where one is wanted, is the report
pub record Answered (session : Transcript) (wanted : Bool) (status : Status) (old new : World) : Type 0 where
  pub verdict : Verdict
  pub report : Option (List Agreement)
  pub judged : IsVerdict session verdict
  pub beside : IsBeside wanted session verdict report
  pub status_is : status ≡ status_of verdict
  pub written : new.at OUTPUT ≡ gave (whole_text session verdict report) (old.at OUTPUT)

-- the ports that `replay` uses
abbrev pub streams : List ℕ
streams = INPUT ∷ OUTPUT ∷ []

-- what `replay` promises where no call failed, but that memory may run out: where Input holds a session, the text of
-- its verdict is written whole, whichever verdict that is, and behind it, where it is wanted, the text of the report beside
-- that; where it holds none, that is said, with the place at which the bytes stop to begin one
pub record ReplayPromise (wanted : Bool) (status : Status) (old new : World) : Type 0 where
  pub told : (bytes : List ℕ) (session : Transcript) (verdict : Verdict) (report : Option (List Agreement))
      → (old.at INPUT).holds ≡ Some bytes → IsSession bytes session → IsVerdict session verdict
      → IsBeside wanted session verdict report → NoneRose streams old new
      → ToldWhole session verdict report status old new ⊎ (status ≡ Memory)
  pub refused : (bytes : List ℕ) → (old.at INPUT).holds ≡ Some bytes
      → ((session : Transcript) → IsSession bytes session → ⊥) → NoneRose streams old new
      → ((place : ℕ) × (status ≡ BadInput (Session place)) × NoSession place bytes) ⊎ (status ≡ Memory)
