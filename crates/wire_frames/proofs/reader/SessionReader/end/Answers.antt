use Rattle.std.proofs.Common.{◌≡◌, inl, inr, subst, sym, ap, ◌∙◌}
use Rattle.std.specs.Prelude.{Err, MatchOption}
use Rattle.wire_frames.specs.declared.head.Head.{Head}
use Rattle.wire_frames.specs.declared.reader.State.{State}
use Rattle.wire_frames.specs.declared.reader.State.TheVariants.{Header, Records, Stopped}
use Rattle.wire_frames.specs.declared.records_reader.RecordsReader.{RecordsReader}
use Rattle.wire_frames.specs.RecordsReader.{bytes_so_far}
use Rattle.wire_frames.specs.Session.{Transcript, IsSession}
use Rattle.wire_frames.specs.Reading.{Reading, Ends}
use Rattle.wire_frames.specs.SessionReader.{IsSound, reading_of}
use Rattle.wire_frames.proofs.SessionStates.{ends_records, ends_before}
use Rattle.wire_frames.proofs.reader.SessionReader.end.Goals as goal

-- records are no header, and not the end
not_header : (state : State) (head : Head) (r : RecordsReader) → state ≡ Header head → state ≡ Records r → ⊥
not_header state head r e e' = cc

not_stopped : (state : State) (r : RecordsReader) → state ≡ Stopped → state ≡ Records r → ⊥
not_stopped state r e e' = cc

pub returns-in-Records : goal.returns-in-Records
returns-in-Records c =
    let taken = c.self.inside.taken in
    let sound = subst (λ (state : State). IsSound taken state) c.in-Records.is c.self.invariant in
    let seen = sym (ap (reading_of taken) c.in-Records.is) ∙ c.self.view_is in
    let ended = subst (λ (r : RecordsReader). MatchOption c.end.result ((t : Transcript) → IsSession (bytes_so_far r) t → ⊥) (IsSession (bytes_so_far r))) c.in-Records.records-is c.end.ensures in
    subst (λ (reading : Reading). Ends reading c.ok_or.result) seen (ends_records taken c.in-Records.records c.end.result c.ok_or.result sound ended c.ok_or.ensures.value)

pub returns-in-Header : goal.returns-in-Header
returns-in-Header c =
    subst (λ (reading : Reading). Ends reading (Err (record { place = c.self.inside.taken }))) c.self.view_is
    (ends_before c.self.inside.taken c.self.inside.state c.self.invariant (λ r is. elim c.in-Header.is [
      | inl header ↦ not_header c.self.inside.state header.0 r header.1 is
      | inr stopped ↦ not_stopped c.self.inside.state r stopped is
    ]))
