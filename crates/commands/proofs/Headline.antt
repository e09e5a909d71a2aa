-- What a run says of a session that Input holds, and of the coins that Coins holds.
use Rattle.std.proofs.Common.{◌≡◌, ◌⊎◌, inl, inr, ℕ, ◌<◌, ◌≤◌, List, length, take, ◌∙◌, Bool, refl, subst, ap, ap₂, sym, arith}
use Rattle.std.specs.Prelude.{Option, Some, None}
use Rattle.std.proofs.lemmas.List.{length-take}
use Rattle.port_trait.specs.World.{World}
use Rattle.port_trait.specs.Number.{INPUT, OUTPUT, COINS}
use Rattle.port_trait.specs.Moves.{gave, named}
use Rattle.port_trait.proofs.Rises.{once_rose}
use Rattle.wire_frames.specs.Limits.{IsInRange}
use Rattle.wire_frames.specs.Session.{Transcript, IsSession}
use Rattle.wire_frames.proofs.OneSession.{one_session}
use Rattle.block_decoder.specs.Verdict.{IsVerdict}
use Rattle.block_decoder.specs.Report.{Agreement}
use Rattle.block_decoder.specs.declared.verdict.Verdict.{Verdict}
use Rattle.block_decoder.proofs.OneVerdict.{one_verdict}
use Rattle.replay.specs.Replayed.{NoSession, ReadsWhole}
use Rattle.port_trait.proofs.Cells.{at_told}
use Rattle.query_rounds.specs.Plan.{need}
use Rattle.commands.proofs.Saying.{same_beside}
use Rattle.commands.specs.declared.status.Status.{Status}
use Rattle.commands.specs.declared.status.Status.TheVariants.{Usage, Absent, ReadFault, WriteFault, BadInput, DoorFault, ChildFault, Memory}
use Rattle.commands.specs.declared.status.Bad.TheVariants.{Session, EmptyFile, TooBig, CoinsEnded}
use Rattle.commands.specs.Said.{IsBeside, ToldWhole, whole_text}
use Rattle.commands.specs.Told.{NoneRose}
use Rattle.commands.specs.Table.{status_of}
use Rattle.commands.specs.ReplayOutcome.{Concluded, ReplayEnds, ReplayPromise, Reported, Answered, streams}
use Rattle.commands.specs.FetchOrder.{FetchOrder}
use Rattle.commands.specs.FetchOutcome.{FetchEnds, FetchPromise, FetchReported, Unrecorded, files_of, record_port}

-- what was read whole is what Input held
pub held_by_input : (P : List ℕ → Type 0) (name : List ℕ) (old new : World) (bytes : List ℕ) → (old.at INPUT).holds ≡ Some bytes → ReadsWhole P (named name (old.at INPUT)) (new.at INPUT) → P bytes
held_by_input P name old new bytes told r = subst P (at_told (λ (h : List ℕ). r.read ≡ h) (old.at INPUT).holds bytes told r.all) r.is

-- the verdict reported is that of the session
answered_by : (name : List ℕ) (wanted : Bool) (status : Status) (old new : World) (bytes : List ℕ) (session : Transcript)
    → (old.at INPUT).holds ≡ Some bytes → IsSession bytes session → Reported name wanted status old new
    → Answered session wanted status old new
answered_by name wanted status old new bytes session told whole said =
    let concluded = held_by_input (Concluded wanted said.session said.verdict said.report) name old new bytes told said.read in
    let same = one_session bytes said.session session concluded.whole whole in
    record {
      verdict = said.verdict;
      report = said.report;
      judged = subst (λ (t : Transcript). IsVerdict t said.verdict) same concluded.judged;
      beside = subst (λ (t : Transcript). IsBeside wanted t said.verdict said.report) same concluded.beside;
      status_is = said.status_is;
      written = said.written ∙ ap (λ (t : Transcript). gave (whole_text t said.verdict said.report) (old.at OUTPUT)) same;
    }

-- where there is a session, its verdict is reported
pub answered : (name : List ℕ) (wanted : Bool) (status : Status) (old new : World) (bytes : List ℕ) (session : Transcript)
    → (old.at INPUT).holds ≡ Some bytes → IsSession bytes session → NoneRose streams old new
    → ReplayEnds name wanted status old new → Answered session wanted status old new ⊎ (status ≡ Memory)
answered name wanted Usage old new bytes session told whole none said = absurd said
answered name wanted Absent old new bytes session told whole none said = absurd said
answered name wanted ReadFault old new bytes session told whole none said = absurd (none.0 (once_rose _ _ said.rose))
answered name wanted WriteFault old new bytes session told whole none said = absurd (none.1.0 (once_rose _ _ said.written.rose))
answered name wanted (BadInput EmptyFile) old new bytes session told whole none said = absurd said
answered name wanted (BadInput (TooBig limit)) old new bytes session told whole none said = absurd said
answered name wanted DoorFault old new bytes session told whole none said = absurd said
answered name wanted ChildFault old new bytes session told whole none said = absurd said
answered name wanted (BadInput (Session place)) old new bytes session told whole none said = absurd ((at_told (NoSession place) (old.at INPUT).holds bytes told said.read.none).none session whole)
answered name wanted (BadInput (CoinsEnded taken)) old new bytes session told whole none said = absurd said
answered name wanted Memory old new bytes session told whole none said = inr refl
answered name wanted status old new bytes session told whole none said = inl (answered_by name wanted status old new bytes session told whole said)

-- nothing is reported where there is no session
no_report : (name : List ℕ) (wanted : Bool) (status : Status) (old new : World) (bytes : List ℕ)
    → (old.at INPUT).holds ≡ Some bytes → ((session : Transcript) → IsSession bytes session → ⊥)
    → Reported name wanted status old new → ⊥
no_report name wanted status old new bytes told nothing said =
    nothing said.session (held_by_input (Concluded wanted said.session said.verdict said.report) name old new bytes told said.read).whole

-- where there is no session, that is said
refused : (name : List ℕ) (wanted : Bool) (status : Status) (old new : World) (bytes : List ℕ)
    → (old.at INPUT).holds ≡ Some bytes → ((session : Transcript) → IsSession bytes session → ⊥)
    → NoneRose streams old new
    → ReplayEnds name wanted status old new → ((place : ℕ) × (status ≡ BadInput (Session place)) × NoSession place bytes) ⊎ (status ≡ Memory)
refused name wanted Usage old new bytes told nothing none said = absurd said
refused name wanted Absent old new bytes told nothing none said = absurd said
refused name wanted ReadFault old new bytes told nothing none said = absurd (none.0 (once_rose _ _ said.rose))
refused name wanted WriteFault old new bytes told nothing none said = absurd (none.1.0 (once_rose _ _ said.written.rose))
refused name wanted (BadInput EmptyFile) old new bytes told nothing none said = absurd said
refused name wanted (BadInput (TooBig limit)) old new bytes told nothing none said = absurd said
refused name wanted DoorFault old new bytes told nothing none said = absurd said
refused name wanted ChildFault old new bytes told nothing none said = absurd said
refused name wanted (BadInput (Session place)) old new bytes told nothing none said = inl (place, refl, at_told (NoSession place) (old.at INPUT).holds bytes told said.read.none)
refused name wanted (BadInput (CoinsEnded taken)) old new bytes told nothing none said = absurd said
refused name wanted Memory old new bytes told nothing none said = inr refl
refused name wanted status old new bytes told nothing none said = absurd (no_report name wanted status old new bytes told nothing said)

-- where there is a session, the text of its verdict and of its report is written, whichever these are
told_by : (wanted : Bool) (status : Status) (old new : World) (session : Transcript) (verdict : Verdict) (report : Option (List Agreement))
    → IsInRange session.params → IsVerdict session verdict → IsBeside wanted session verdict report
    → Answered session wanted status old new → ToldWhole session verdict report status old new
told_by wanted status old new session verdict report range judged beside said =
    let same : said.verdict ≡ verdict = one_verdict session said.verdict verdict range said.judged judged in
    let own = subst (λ (v : Verdict). IsBeside wanted session v said.report) same said.beside in
    let one : said.report ≡ report = same_beside session verdict range.scheme wanted said.report report own beside in
    record {
      status_is = said.status_is ∙ ap status_of same;
      written = said.written ∙ ap₂ (λ (v : Verdict) (r : Option (List Agreement)). gave (whole_text session v r) (old.at OUTPUT)) same one;
    }

-- what is promised of `replay`
pub replay_promised : (name : List ℕ) (wanted : Bool) (status : Status) (old new : World) → ReplayEnds name wanted status old new → ReplayPromise wanted status old new
replay_promised name wanted status old new said = record {
  told = λ bytes session verdict report told whole judged beside none. elim (answered name wanted status old new bytes session told whole none said) [
    | inl a ↦ inl (told_by wanted status old new session verdict report whole.range judged beside a)
    | inr m ↦ inr m
  ];
  refused = λ bytes told nothing none. refused name wanted status old new bytes told nothing none said;
}

-- a record that can't be written rose
unrecorded_rose : (keep : Option (List ℕ)) (session : Transcript) (old new : World) → NoneRose (record_port keep) old new → Unrecorded keep session old new → ⊥
unrecorded_rose None session old new none cut = cut
unrecorded_rose (Some name) session old new none cut = none.0 (once_rose _ _ cut.rose)

-- where there are coins enough, the verdict is reported
reported : (o : FetchOrder) (status : Status) (old new : World) (held : List ℕ) → (old.at COINS).holds ≡ Some held → need o.plan (length o.blocks) ≤ length held → NoneRose (files_of o) old new
    → FetchEnds o status old new → FetchReported o status old new ⊎ (status ≡ Memory)
reported o Usage old new held told enough none said = absurd said
reported o Absent old new held told enough none said = absurd said
reported o ReadFault old new held told enough none said = absurd (none.1.0 (once_rose _ _ said.unread.rose))
reported o WriteFault old new held told enough none said = absurd (elim said.cut [ inl c ↦ unrecorded_rose o.keep said.session old new none.1.1 c.0 | inr c ↦ none.0 (once_rose _ _ c.1.rose) ])
reported o (BadInput EmptyFile) old new held told enough none said = absurd said
reported o (BadInput (TooBig limit)) old new held told enough none said = absurd said
reported o DoorFault old new held told enough none said = absurd said
reported o ChildFault old new held told enough none said = absurd said
reported o (BadInput (Session place)) old new held told enough none said = absurd said
reported o (BadInput (CoinsEnded taken)) old new held told enough none said =
    let all = at_told (λ (h : List ℕ). length h ≡ taken) (old.at COINS).holds held told said.short.all in
    absurd (omega (arith, all, said.short.fewer, enough))
reported o Memory old new held told enough none said = inr refl
reported o status old new held told enough none said = inl said

-- no server is asked where there are too few coins
no_coins : (o : FetchOrder) (status : Status) (old new : World) (held : List ℕ) → (old.at COINS).holds ≡ Some held → length held < need o.plan (length o.blocks) → FetchReported o status old new → ⊥
no_coins o status old new held told few said =
    let tossed = said.settled.fetched.tossed in
    let coins = at_told (λ (h : List ℕ). said.settled.coins ≡ take (need o.plan (length o.blocks)) h) (old.at COINS).holds held told tossed.told in
    omega (arith, tossed.size, ap length coins, length-take (need o.plan (length o.blocks)) held, few)

-- where there are fewer, that is said
too_few : (o : FetchOrder) (status : Status) (old new : World) (held : List ℕ) → (old.at COINS).holds ≡ Some held → length held < need o.plan (length o.blocks) → NoneRose (files_of o) old new
    → FetchEnds o status old new → (status ≡ BadInput (CoinsEnded (length held))) ⊎ (status ≡ Memory)
too_few o Usage old new held told few none said = absurd said
too_few o Absent old new held told few none said = absurd said
too_few o ReadFault old new held told few none said = absurd (none.1.0 (once_rose _ _ said.unread.rose))
too_few o WriteFault old new held told few none said = absurd (elim said.cut [ inl c ↦ unrecorded_rose o.keep said.session old new none.1.1 c.0 | inr c ↦ none.0 (once_rose _ _ c.1.rose) ])
too_few o (BadInput EmptyFile) old new held told few none said = absurd said
too_few o (BadInput (TooBig limit)) old new held told few none said = absurd said
too_few o DoorFault old new held told few none said = absurd said
too_few o ChildFault old new held told few none said = absurd said
too_few o (BadInput (Session place)) old new held told few none said = absurd said
too_few o (BadInput (CoinsEnded taken)) old new held told few none said =
    inl (ap (λ (n : ℕ). BadInput (CoinsEnded n)) (sym (at_told (λ (h : List ℕ). length h ≡ taken) (old.at COINS).holds held told said.short.all)))
too_few o Memory old new held told few none said = inr refl
too_few o status old new held told few none said = absurd (no_coins o status old new held told few said)

-- what is promised of `fetch`
pub fetch_promised : (o : FetchOrder) (status : Status) (old new : World) → FetchEnds o status old new → FetchPromise o status old new
fetch_promised o status old new said = record {
  reported = λ held told enough none. reported o status old new held told enough none said;
  too_few_coins = λ held told few none. too_few o status old new held told few none said;
}
