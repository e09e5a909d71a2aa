-- What a reader of a session has seen, from one state to the next.
use Rattle.std.proofs.Common.{◌≡◌, ℕ, ◌+◌, ◌<◌, ◌≤◌, List, [], ◌++◌, length, take, refl, sym, subst, ap, ◌∙◌, arith, length-append}
use Rattle.std.specs.Prelude.{Option, Some, None, Result, Ok, Err, MatchOption}
use Rattle.std.specs.Option.{ok_or}
use Rattle.std.proofs.Math.Seq.{take-append-add}
use Rattle.std.proofs.lemmas.List.{length-take-le, take_all}
use Rattle.wire_frames.specs.declared.reader.BadSession.{BadSession as SessionFault}
use Rattle.wire_frames.specs.declared.reader.FeedFault.TheVariants.{BadSession}
use Rattle.wire_frames.specs.declared.reader.State.{State}
use Rattle.wire_frames.specs.declared.reader.State.TheVariants.{Header, Records, Stopped}
use Rattle.wire_frames.specs.declared.reader.Stop.TheVariants.{Wrong}
use Rattle.wire_frames.specs.declared.records_reader.RecordsReader.{RecordsReader}
use Rattle.wire_frames.specs.Beginning.{Begins, IsPlace}
use Rattle.wire_frames.specs.Form.{Starts}
use Rattle.wire_frames.specs.Layout.{IsHeader}
use Rattle.wire_frames.specs.Reading.{Reading, SoFar, Refused, Feeds, Ends}
use Rattle.wire_frames.specs.RecordsReader.{Refuses, bytes_so_far}
use Rattle.wire_frames.specs.Session.{Transcript, IsSession}
use Rattle.wire_frames.specs.SessionReader.{Sees, IsSound, FeedsState, reading_of}
use Rattle.wire_frames.proofs.Beginnings.{begins_short, header_begins, header_short}
use Rattle.wire_frames.proofs.Prefixes.{starts-shorter}
use Rattle.wire_frames.proofs.SessionLayout.{header_back, some_magic}
use Rattle.wire_frames.proofs.RecordSteps.{open_begins}

-- no byte is right
pub nothing_right : Starts IsHeader []
nothing_right = record { rest = some_magic.rest; value = some_magic.value; whole = header_back some_magic.rest some_magic.value some_magic.whole }

-- a reader that has seen nothing
pub new_sound : (taken : ℕ) (head : List ℕ) → 0 ≡ taken → head ≡ [] → IsSound taken (Header head)
new_sound taken head none is_head =
    (omega (arith, ap length is_head), (refl, omega (arith, ap length is_head), subst (Starts IsHeader) (sym is_head) nothing_right))

-- what a state has seen begins a session
sees_begins : (state : State) (bytes : List ℕ) → Sees state bytes → Starts IsSession bytes
sees_begins (Header head) bytes sees = subst (Starts IsSession) sees.0 (header_begins head sees.2)
sees_begins (Records r) bytes sees = subst (Starts IsSession) sees.0 (open_begins r sees.1)
sees_begins Stopped bytes sees = absurd sees

-- a state that has seen bytes is sound, where so many were taken
sees_sound : (state : State) (bytes : List ℕ) (taken : ℕ) → taken ≡ length bytes → Sees state bytes → IsSound taken state
sees_sound (Header head) bytes taken count sees = (count ∙ ap length (sym sees.0), (refl, sees.1, sees.2))
sees_sound (Records r) bytes taken count sees = (count ∙ ap length (sym sees.0), (refl, sees.1))
sees_sound Stopped bytes taken count sees = absurd sees

-- a state that stands for bytes is, to a caller, a reader of these bytes
sees_reading : (state : State) (bytes : List ℕ) (taken : ℕ) → Sees state bytes → reading_of taken state ≡ SoFar bytes
sees_reading (Header head) bytes taken sees = ap (λ (l : List ℕ). SoFar l) sees.0
sees_reading (Records r) bytes taken sees = ap (λ (l : List ℕ). SoFar l) sees.0
sees_reading Stopped bytes taken sees = absurd sees

-- A PIECE IS TAKEN, behind these bytes
pub record Takes (taken : ℕ) (old : State) (bytes piece : List ℕ) (new : State) : Type 0 where
  pub reading : reading_of taken old ≡ SoFar bytes
  pub count : taken ≡ length bytes
  pub sees : Sees new (bytes ++ piece)

-- a piece that was taken came behind bytes for which the old state stands
takes_of : (taken : ℕ) (old : State) (piece : List ℕ) (new : State) → IsSound taken old → FeedsState old piece (Ok tt) new → (bytes : List ℕ) × Takes taken old bytes piece new
takes_of taken (Header head) piece new sound fed = (head, record { reading = refl; count = sound.0; sees = fed })
takes_of taken (Records r) piece new sound fed = (bytes_so_far r, record { reading = refl; count = sound.0; sees = fed })
takes_of taken Stopped piece new sound fed = absurd cc

-- the bytes taken with the piece number at most 2^32
pub taken_fits : (taken : ℕ) (old : State) (piece : List ℕ) (new : State) → IsSound taken old → FeedsState old piece (Ok tt) new → taken + length piece ≤ 4294967296
taken_fits taken old piece new sound fed =
    let t = takes_of taken old piece new sound fed in
    omega (arith, t.1.count, length-append t.0 piece, begins_short (t.0 ++ piece) (sees_begins new (t.0 ++ piece) t.1.sees))

-- the new state stands for as many bytes as were taken
pub taken_sound : (taken : ℕ) (old : State) (piece : List ℕ) (new : State) → IsSound taken old → FeedsState old piece (Ok tt) new → IsSound (taken + length piece) new
taken_sound taken old piece new sound fed =
    let t = takes_of taken old piece new sound fed in
    sees_sound new (t.0 ++ piece) (taken + length piece) (omega (arith, t.1.count, length-append t.0 piece)) t.1.sees

-- and a caller sees the piece behind the bytes so far
pub taken_reads : (taken : ℕ) (old : State) (piece : List ℕ) (new : State) → IsSound taken old → FeedsState old piece (Ok tt) new
    → Feeds (reading_of taken old) piece (Ok tt) (reading_of (taken + length piece) new)
taken_reads taken old piece new sound fed =
    let t = takes_of taken old piece new sound fed in
    subst (λ (reading : Reading). Feeds reading piece (Ok tt) (reading_of (taken + length piece) new)) (sym t.1.reading)
    (sees_begins new (t.0 ++ piece) t.1.sees, sees_reading new (t.0 ++ piece) (taken + length piece) t.1.sees)

-- A PIECE IS REFUSED: the place is behind the bytes before it
refuses_place : (bytes piece : List ℕ) (right : ℕ) → Refuses bytes piece right → IsPlace (bytes ++ piece) (length bytes + right)
refuses_place bytes piece right h =
    let more = length-append bytes piece in
    record {
      within = omega (arith, h.before, more);
      begins = subst Begins (sym (take-append-add bytes piece right)) h.begins;
      longest = λ n after inside b.
          let next = starts-shorter IsSession (length bytes + (right + 1)) n (bytes ++ piece) (omega arith) b in
          h.longest (subst (Starts IsSession) (take-append-add bytes piece (right + 1)) next);
    }

-- the place at which a piece is refused is at most 2^32
refuses_short : (bytes piece : List ℕ) (right : ℕ) → Refuses bytes piece right → length bytes + right ≤ 4294967296
refuses_short bytes piece right h =
    omega (arith, begins_short (bytes ++ take right piece) h.begins, length-append bytes (take right piece), length-take-le right piece (omega (arith, h.before)))

-- a caller sees the reader refused at that place
refuses_reads : (taken : ℕ) (bytes piece : List ℕ) (right : ℕ) → taken ≡ length bytes → Refuses bytes piece right
    → Feeds (SoFar bytes) piece (Err (BadSession (taken + right))) (Refused (taken + right))
refuses_reads taken bytes piece right count h =
    let same : length bytes + right ≡ taken + right = omega arith in
    (subst (IsPlace (bytes ++ piece)) same (refuses_place bytes piece right h), omega (arith, h.before, length-append bytes piece), refl)

-- where a piece is refused in some state, the count of bytes up to there doesn't wrap
pub refused_fits : (taken : ℕ) (old : State) (piece : List ℕ) (right : ℕ) (new : State) → taken < 18446744073709551616 → IsSound taken old → FeedsState old piece (Err (Wrong right)) new
    → taken + right < 18446744073709551616
refused_fits taken (Header head) piece right new small sound fed = omega (arith, refuses_short head piece right fed, sound.0)
refused_fits taken (Records r) piece right new small sound fed = omega (arith, refuses_short (bytes_so_far r) piece right fed, sound.0)
refused_fits taken Stopped piece right new small sound fed = let none : right ≡ 0 = cc in omega arith

-- and a caller sees the reader refused there
pub refused_reads : (taken : ℕ) (old : State) (piece : List ℕ) (right : ℕ) (new : State) → IsSound taken old → FeedsState old piece (Err (Wrong right)) new
    → Feeds (reading_of taken old) piece (Err (BadSession (taken + right))) (Refused (taken + right))
refused_reads taken (Header head) piece right new sound fed = refuses_reads taken head piece right sound.0 fed
refused_reads taken (Records r) piece right new sound fed = refuses_reads taken (bytes_so_far r) piece right sound.0 fed
refused_reads taken Stopped piece right new sound fed =
    let none : right ≡ 0 = cc in
    let same : taken + right ≡ taken = omega arith in
    (ap (λ (n : ℕ). Err (BadSession n)) same, ap (λ (n : ℕ). Refused n) same)

-- THE END: bytes that are no session are refused at their length
ends_at_length : (bytes : List ℕ) → Starts IsSession bytes → IsPlace bytes (length bytes)
ends_at_length bytes s = record {
  within = omega arith;
  begins = subst Begins (sym (take_all (length bytes) bytes (omega arith))) s;
  longest = λ n more inside b. omega arith;
}

-- at the end of the bytes a reader of records has the session of which they are the file, or none is
pub ends_records : (taken : ℕ) (r : RecordsReader) (session : Option Transcript) (result : Result Transcript SessionFault) → IsSound taken (Records r)
    → MatchOption session ((t : Transcript) → IsSession (bytes_so_far r) t → ⊥) (IsSession (bytes_so_far r)) → result ≡ ok_or session (record { place = taken })
    → Ends (SoFar (bytes_so_far r)) result
ends_records taken r None result sound none is =
    let bytes = bytes_so_far r in
    let place = subst (IsPlace bytes) (sym sound.0) (ends_at_length bytes (open_begins r sound.1.1)) in
    subst (Ends (SoFar bytes)) (sym is) (place, sound.0, none)
ends_records taken r (Some t) result sound whole is = subst (Ends (SoFar (bytes_so_far r))) (sym is) whole

-- in any state but that of records, the bytes so far are no session's file
pub ends_before : (taken : ℕ) (state : State) → IsSound taken state → ((r : RecordsReader) → state ≡ Records r → ⊥) → Ends (reading_of taken state) (Err (record { place = taken }))
ends_before taken (Header head) sound not =
    (subst (IsPlace head) (sym sound.0) (ends_at_length head (header_begins head sound.1.2)), sound.0, λ t h. header_short head t sound.1.1 h)
ends_before taken (Records r) sound not = absurd (not r refl)
ends_before taken Stopped sound not = refl
