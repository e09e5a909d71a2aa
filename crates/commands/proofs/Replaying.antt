-- A replay from its first port to its last.
use Rattle.std.proofs.Common.{◌≡◌, ◌⊎◌, ◌∙◌, inl, inr, ℕ, Bool, true, false, List, [], ◌∷◌, refl, lit<, sym, ap, subst, arith}
use Rattle.std.specs.Prelude.{Option, None, Err}
use Rattle.port_trait.specs.World.{Cell, World}
use Rattle.port_trait.specs.Number.{INPUT, OUTPUT}
use Rattle.port_trait.specs.Moves.{Fails, RoseOnce, Touches, gave, named}
use Rattle.port_trait.proofs.Carried.{fails_writing_before}
use Rattle.wire_frames.specs.Session.{Transcript}
use Rattle.block_decoder.specs.Report.{Agreement}
use Rattle.block_decoder.specs.Text.{text}
use Rattle.block_decoder.specs.declared.verdict.Verdict.{Verdict}
use Rattle.block_decoder.specs.declared.verdict.Verdict.TheVariants.{Listed as IsListed, TooFew as IsTooFew, TooWeak as IsTooWeak, TooCostly as IsTooCostly}
use Rattle.replay.specs.Replayed.{BreaksOff, Judged, JudgedWhole, ReadTo, ReadsLittle, ReadsWhole, Refuses, SpellsOne}
use Rattle.replay.specs.declared.ReplayFault.{ReplayFault}
use Rattle.replay.specs.declared.ReplayFault.TheVariants.{ReadFault as Unreadable, BadSession, Memory as Unfinished}
use Rattle.commands.specs.Faults.{of_replay}
use Rattle.commands.specs.Table.{status_of}
use Rattle.commands.specs.Said.{Tells, whole_text}
use Rattle.commands.specs.ReplayOutcome.{Concluded, ReplayEnds, Reported}
use Rattle.commands.specs.declared.status.Status.{Status}
use Rattle.commands.specs.declared.status.Status.TheVariants.{ReadFault}

-- a replay that reports a verdict ends with its status
ends_as : (name : List ℕ) (wanted : Bool) (verdict : Verdict) (w z : World) → Reported name wanted (status_of verdict) w z → ReplayEnds name wanted (status_of verdict) w z
ends_as name wanted (IsListed []) w z said = said
ends_as name wanted (IsListed (b ∷ [])) w z said = said
ends_as name wanted (IsListed (b ∷ (c ∷ bs))) w z said = said
ends_as name wanted (IsTooFew k h) w z said = said
ends_as name wanted (IsTooWeak k t h) w z said = said
ends_as name wanted (IsTooCostly equations) w z said = said

-- Input was opened, all of it was read and judged, and that was told
pub replay_told : (name : List ℕ) (wanted : Bool) (session : Transcript) (verdict : Verdict)
    (report : Option (List Agreement)) (status : Status) (w v u z : World)
    → v.at INPUT ≡ named name (w.at INPUT) → Touches INPUT w v
    → ReadsWhole (Concluded wanted session verdict report) (v.at INPUT) (u.at INPUT) → Touches INPUT v u
    → Tells (whole_text session verdict report) verdict status u z → Touches OUTPUT u z
    → ReplayEnds name wanted status w z
replay_told name wanted session verdict report status w v u z is_open touch read touched told last = elim told [
  | inl whole ↦
      subst (λ (s : Status). ReplayEnds name wanted s w z) (sym whole.0) (ends_as name wanted verdict w z record {
        session = session;
        verdict = verdict;
        report = report;
        status_is = refl;
        read = all;
        written = whole.1 ∙ ap (gave (whole_text session verdict report)) still;
      })
  | inr part ↦
      subst (λ (s : Status). ReplayEnds name wanted s w z) (sym part.0) (record {
        session = session;
        verdict = verdict;
        report = report;
        read = all;
        written = fails_writing_before 1 w u z still (whole_text session verdict report) part.1;
      })
]
  where
    -- Output isn't touched before
    still : u.at OUTPUT ≡ w.at OUTPUT
    still = touched.others 1 (lit< tt) (λ e. omega (arith, e)) ∙ touch.others 1 (lit< tt) (λ e. omega (arith, e))

    -- Input was read whole, from its opening on
    all : ReadsWhole (Concluded wanted session verdict report) (named name (w.at INPUT)) (z.at INPUT)
    all = subst (λ (c : Cell). ReadsWhole (Concluded wanted session verdict report) c (z.at INPUT)) is_open
        (subst (λ (c : Cell). ReadsWhole (Concluded wanted session verdict report) (v.at INPUT) c) (sym (last.others 0 (lit< tt) (λ e. omega (arith, e)))) read)

-- with no report
pub plain_told : (name : List ℕ) (verdict : Verdict) (status : Status) (w v u z : World) → v.at INPUT ≡ named name (w.at INPUT) → Touches INPUT w v
    → ReadsWhole (Judged verdict) (v.at INPUT) (u.at INPUT) → Touches INPUT v u → Tells (text verdict) verdict status u z → Touches OUTPUT u z → ReplayEnds name false status w z
plain_told name verdict status w v u z is_open touch read touched told last =
    replay_told name false read.is.session verdict None status w v u z is_open touch record {
      read = read.read;
      cell = read.cell;
      all = read.all;
      is = record { whole = read.is.whole; judged = read.is.judged; beside = refl };
    } touched told last

-- with the report behind the verdict
pub whole_told : (name : List ℕ) (session : Transcript) (verdict : Verdict) (report : Option (List Agreement)) (status : Status) (w v u z : World)
    → v.at INPUT ≡ named name (w.at INPUT) → Touches INPUT w v
    → ReadsWhole (JudgedWhole (session, verdict, report)) (v.at INPUT) (u.at INPUT) → Touches INPUT v u
    → Tells (whole_text session verdict report) verdict status u z → Touches OUTPUT u z
    → ReplayEnds name true status w z
whole_told name session verdict report status w v u z is_open touch read touched told last =
    replay_told name true session verdict report status w v u z is_open touch record {
      read = read.read;
      cell = read.cell;
      all = read.all;
      is = record { whole = read.is.whole; judged = read.is.judged; beside = read.is.report };
    } touched told last

-- Input can't be opened
pub unopened : (name : List ℕ) (wanted : Bool) (w v : World) → Fails INPUT w v → Touches INPUT w v → ReplayEnds name wanted ReadFault w v
unopened name wanted w v fails touch = record {
  input = inl fails.cell;
  rose = fails.rose;
  output = touch.others 1 (lit< tt) (λ e. omega (arith, e));
}

-- Input was opened, but nothing was judged
module _ (name : List ℕ) (wanted : Bool) (w v u : World) (is_open : v.at INPUT ≡ named name (w.at INPUT)) (touch : Touches INPUT w v) (touched : Touches INPUT v u) where
  -- Output isn't touched before
  still : u.at OUTPUT ≡ w.at OUTPUT
  still = touched.others 1 (lit< tt) (λ e. omega (arith, e)) ∙ touch.others 1 (lit< tt) (λ e. omega (arith, e))

  -- the run ends as the fault says
  pub unjudged : {T : Type 0} → (P : T → List ℕ → Type 0) (fault : ReplayFault) → ReadTo P (Err fault) v u → ReplayEnds name wanted (of_replay fault) w u
  unjudged P Unreadable read = record {
    input = inr (subst (λ (c : Cell). BreaksOff c (u.at INPUT)) is_open read);
    rose = subst (λ (c : Cell). RoseOnce c.faults (u.at INPUT).faults) is_open read.rose;
    output = still;
  }
  unjudged P (BadSession place) read = record { read = subst (λ (c : Cell). Refuses place c (u.at INPUT)) is_open read; output = still }
  unjudged P Unfinished read = record {
    read = subst (λ (c : Cell). ReadsLittle c (u.at INPUT) ⊎ ReadsWhole SpellsOne c (u.at INPUT)) is_open read;
    output = still;
  }
