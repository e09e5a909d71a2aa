-- What `fetch` does to the outside, by the status that it ends with.
use Rattle.std.specs.Prelude.{◌≡◌, ◌⊎◌, ℕ, ◌<◌, ◌≤◌, Bool, List, [], ◌∷◌, length, Option, Some, None, Result, Ok, Err}
use Rattle.port_trait.specs.World.{World}
use Rattle.port_trait.specs.Number.{OUTPUT, COINS, RECORD, link}
use Rattle.port_trait.specs.Moves.{Touches, gave, named}
use Rattle.port_trait.specs.Whole.{FailsWithin}
use Rattle.port_trait.specs.Touched.{One, From, TouchesOnly}
use Rattle.port_trait.specs.Files.{Unread, Unwritten}
use Rattle.port_trait.specs.Tossed.{Tossed, RunsOut}
use Rattle.wire_frames.specs.Session.{Transcript, IsSession, session_bytes}
use Rattle.block_decoder.specs.Report.{Agreement}
use Rattle.block_decoder.specs.Verdict.{IsVerdict}
use Rattle.block_decoder.specs.declared.verdict.Verdict.{Verdict}
use Rattle.query_rounds.specs.declared.plan.FetchFault.{FetchFault}
use Rattle.query_rounds.specs.Plan.{need}
use Rattle.query_rounds.specs.Request.{Request, request}
use Rattle.query_rounds.specs.Sent.{queries_from}
use Rattle.fetch_client.specs.Honest.{FindsHonestBlock, NamesLiarsIn}
use Rattle.query_rounds.specs.Gathered.{AsksAll, FetchesTo}
use Rattle.fetch_client.specs.Fetched.{Concludes}
use Rattle.commands.specs.HeldRow.{FindsHeldRow}
use Rattle.commands.specs.Table.{status_of}
use Rattle.port_trait.specs.declared.port.Failed.{Failed}
use Rattle.commands.specs.Said.{IsBeside, Tells, whole_text}
use Rattle.commands.specs.Told.{NoneRose}
use Rattle.commands.specs.FetchOrder.{FetchOrder}
use Rattle.commands.specs.declared.status.Status.{Status}
use Rattle.commands.specs.declared.status.Status.TheVariants.{Usage, Absent, ReadFault, WriteFault, BadInput, DoorFault, ChildFault, Memory}
use Rattle.commands.specs.declared.status.Bad.TheVariants.{Session, EmptyFile, TooBig, CoinsEnded}

-- what the order asks for, and of whom
abbrev pub request_by : FetchOrder → Request
request_by o = request o.plan o.blocks o.addresses

-- Coins was opened by its name and gave these coins, and every server was asked with them, in this session
pub record InSession (o : FetchOrder) (coins : List ℕ) (session : Transcript) (old new : World) : Type 0 where
  pub tossed : Tossed (need o.plan (length o.blocks)) coins (named o.coins (old.at COINS)) (new.at COINS)
  pub asked : AsksAll (request_by o) coins session old new

-- every server was asked in this session, and this is its verdict, which has the block of honest servers, and the row
-- that enough servers hold
pub record Settled (o : FetchOrder) (session : Transcript) (verdict : Verdict) (old new : World) : Type 0 where
  pub coins : List ℕ
  pub fetched : InSession o coins session old new
  pub judged : IsVerdict session verdict
  pub found : FindsHonestBlock session o.plan.t o.plan.tau (queries_from coins) o.blocks verdict
  pub held : FindsHeldRow o.plan o.blocks coins session verdict

-- Record was opened by this name, and has taken the file of the session
pub record IsRecorded (name : List ℕ) (session : Transcript) (old new : World) : Type 0 where
  pub file : IsSession (session_bytes session) session
  pub cell : new.at RECORD ≡ gave (session_bytes session) (named name (old.at RECORD))

-- the session is recorded by the name that is given, where one is
abbrev pub Recorded : Option (List ℕ) → Transcript → World → World → Type 0
Recorded None session old new = new.at RECORD ≡ old.at RECORD
Recorded (Some name) session old new = IsRecorded name session old new

-- the session can't be recorded by the name that is given
abbrev pub Unrecorded : Option (List ℕ) → Transcript → World → World → Type 0
Unrecorded None session old new = ⊥
Unrecorded (Some name) session old new = Unwritten RECORD name (session_bytes session) old new

-- the verdict on the session is written whole, after the record of the session, and behind it, where one is wanted, the
-- report, which names those who lied
pub record FetchReported (o : FetchOrder) (status : Status) (old new : World) : Type 0 where
  pub session : Transcript
  pub verdict : Verdict
  pub report : Option (List Agreement)
  pub settled : Settled o session verdict old new
  pub beside : IsBeside o.report session verdict report
  pub liars : NamesLiarsIn session o.plan.t o.plan.tau (queries_from settled.coins) o.blocks report
  pub status_is : status ≡ status_of verdict
  pub recorded : Recorded o.keep session old new
  pub written : new.at OUTPUT ≡ gave (whole_text session verdict report) (old.at OUTPUT)

-- the session can't be recorded, and Output is left alone; or it is, and Output has taken a proper prefix of the
-- verdict's text, or of that and of the report's behind it, where one is wanted
pub record FetchCutShort (o : FetchOrder) (old new : World) : Type 0 where
  pub session : Transcript
  pub verdict : Verdict
  pub report : Option (List Agreement)
  pub settled : Settled o session verdict old new
  pub beside : IsBeside o.report session verdict report
  pub cut : (Unrecorded o.keep session old new × (new.at OUTPUT ≡ old.at OUTPUT))
      ⊎ (Recorded o.keep session old new × FailsWithin OUTPUT (whole_text session verdict report) old new)

-- the coins can't be read, and no server was asked
pub record FetchUnreadable (o : FetchOrder) (old new : World) : Type 0 where
  pub unread : Unread COINS o.coins (need o.plan (length o.blocks)) old new
  pub others : Touches COINS old new

-- there are too few coins, and no server was asked
pub record FetchRefused (o : FetchOrder) (taken : ℕ) (old new : World) : Type 0 where
  pub short : RunsOut (need o.plan (length o.blocks)) taken (named o.coins (old.at COINS)) (new.at COINS)
  pub others : Touches COINS old new

-- every server was asked, in some session
pub record AskedInVain (o : FetchOrder) (old new : World) : Type 0 where
  pub coins : List ℕ
  pub session : Transcript
  pub fetched : InSession o coins session old new

-- memory ran out before a server was asked, or when all were; nothing is recorded or written
pub record FetchUnfinished (o : FetchOrder) (old new : World) : Type 0 where
  pub part : ((new.at COINS ≡ named o.coins (old.at COINS)) × Touches COINS old new) ⊎ AskedInVain o old new
  pub kept : new.at RECORD ≡ old.at RECORD
  pub output : new.at OUTPUT ≡ old.at OUTPUT

-- what `fetch` did, by its status
abbrev pub FetchEnds : FetchOrder → Status → World → World → Type 0
FetchEnds o Usage old new = ⊥
FetchEnds o Absent old new = ⊥
FetchEnds o ReadFault old new = FetchUnreadable o old new
FetchEnds o WriteFault old new = FetchCutShort o old new
FetchEnds o (BadInput (Session place)) old new = ⊥
FetchEnds o (BadInput EmptyFile) old new = ⊥
FetchEnds o (BadInput (TooBig limit)) old new = ⊥
FetchEnds o (BadInput (CoinsEnded taken)) old new = FetchRefused o taken old new
FetchEnds o DoorFault old new = ⊥
FetchEnds o ChildFault old new = ⊥
FetchEnds o Memory old new = FetchUnfinished o old new
FetchEnds o status old new = FetchReported o status old new

-- Output, Coins, Record and the links to so many servers alone are touched
abbrev pub TouchesFetch : ℕ → World → World → Type 0
TouchesFetch n old new = TouchesOnly (One OUTPUT ∷ One COINS ∷ One RECORD ∷ From (link 1) n ∷ []) old new

-- what `fetch` did, and that it did no more
pub record FetchOutcome (o : FetchOrder) (status : Status) (old new : World) : Type 0 where
  pub ends : FetchEnds o status old new
  pub others : TouchesFetch o.plan.n old new

-- the session is recorded, or can't be
abbrev pub Keeps : Option (List ℕ) → Transcript → Result (Unit {0}) Failed → World → World → Type 0
Keeps keep session (Ok _) old new = Recorded keep session old new
Keeps keep session (Err _) old new = Unrecorded keep session old new

-- Output and Record alone are touched
abbrev pub TouchesFiles : World → World → Type 0
TouchesFiles old new = TouchesOnly (One OUTPUT ∷ One RECORD ∷ []) old new

-- the session is recorded, and its verdict written with the report behind it, where there is one; or one of them was cut
-- short, and nothing was written after it
abbrev pub Reports : Option (List ℕ) → Transcript × Verdict × Option (List Agreement) → Status → World → World → Type 0
Reports keep found status old new =
    (Recorded keep found.0 old new × Tells (whole_text found.0 found.1 found.2) found.1 status old new)
    ⊎ (Unrecorded keep found.0 old new × (status ≡ WriteFault) × (new.at OUTPUT ≡ old.at OUTPUT))

-- every server was asked, with some coins, in this session; this is its verdict, and this the report beside it, where one is
-- wanted, which names those who lied
pub record ConcludesBeside (wanted : Bool) (r : Request) (found : Transcript × Verdict × Option (List Agreement))
    (old new : World) : Type 0 where
  pub concludes : Concludes r found.0 found.1 old new
  pub beside : IsBeside wanted found.0 found.1 found.2
  pub liars : NamesLiarsIn found.0 r.plan.t r.plan.tau (queries_from concludes.coins) r.blocks found.2

-- what the fetch of an order answers, and what it did then
abbrev pub FetchesBeside : FetchOrder → Result (Transcript × Verdict × Option (List Agreement)) FetchFault
    → World → World → Type 0
FetchesBeside o = FetchesTo (ConcludesBeside o.report (request_by o)) (request_by o)

-- what a fetch answered, with no report
abbrev pub with_none : Result (Transcript × Verdict) FetchFault → Result (Transcript × Verdict × Option (List Agreement)) FetchFault
with_none (Ok both) = Ok (both.0, both.1, None)
with_none (Err fault) = Err fault

-- the port of a record, where one is kept
abbrev pub record_port : Option (List ℕ) → List ℕ
record_port None = []
record_port (Some name) = RECORD ∷ []

-- the ports that `fetch` uses but the links
abbrev pub files_of : FetchOrder → List ℕ
files_of o = OUTPUT ∷ COINS ∷ record_port o.keep

-- what `fetch` promises where no call failed but on links, but that memory may run out: where Coins holds enough, every
-- server was asked, and the text of the session's verdict is written whole; where it holds fewer, that is said, with
-- their number
pub record FetchPromise (o : FetchOrder) (status : Status) (old new : World) : Type 0 where
  pub reported : (held : List ℕ) → (old.at COINS).holds ≡ Some held → need o.plan (length o.blocks) ≤ length held
      → NoneRose (files_of o) old new → FetchReported o status old new ⊎ (status ≡ Memory)
  pub too_few_coins : (held : List ℕ) → (old.at COINS).holds ≡ Some held → length held < need o.plan (length o.blocks)
      → NoneRose (files_of o) old new → (status ≡ BadInput (CoinsEnded (length held))) ⊎ (status ≡ Memory)
