-- The records of servers by what they answered.
use Rattle.std.proofs.Common.{◌≡◌, ◌∙◌, ℕ, ◌+◌, ◌-◌, ◌<◌, ◌≤◌, List, [], ◌∷◌, ◌++◌, length, take, drop, refl, sym, ap, ap₂, arith}
use Rattle.std.specs.Prelude.{Option, slice_index}
use Rattle.std.proofs.lemmas.List.Sums.{sum_by_more, sum_by_more_le}
use Rattle.wire_frames.specs.declared.session.SessionParams.{SessionParams}
use Rattle.wire_frames.specs.Session.{Transcript}
use Rattle.wire_frames.proofs.Turns.{in_turn-more, length-in_turn}
use Rattle.client_calls.specs.Answers.{AreAnswers, Given, answer_at, record_of, records_of, total}

-- a session with these numbers and records
abbrev pub transcript : SessionParams → List (Option (List ℕ)) → Transcript
transcript params records = record { params = params; records = records }

-- there is one for each server
pub length-records : (most n : ℕ) (g : Given) → length (records_of most n g) ≡ n
length-records most n g =
    length-in_turn n 1 (λ i. record_of most (slice_index g.marks i) (answer_at g i) ∷ []) (λ i l. refl) ∙ omega arith

-- so a session that has those of all its servers has as many as it has servers
pub all_recorded : (most : ℕ) (g : Given) (before after : Transcript) → after ≡ record before { records = records_of most before.params.n g }
    → length after.records ≡ after.params.n
all_recorded most g before after is =
    ap (λ (t : Transcript). length t.records) is ∙ length-records most before.params.n g ∙ sym (ap (λ (t : Transcript). t.params.n) is)

-- a session has room for a record where it has those of the servers so far
pub has_room : (most i n : ℕ) (g : Given) (params : SessionParams) (session : Transcript) → session ≡ transcript params (records_of most i g)
    → i < length g.lengths → length g.lengths ≡ params.n → length session.records < session.params.n
has_room most i n g params session is inside all =
    let count = ap (λ (t : Transcript). length t.records) is ∙ length-records most i g in
    let servers = ap (λ (t : Transcript). t.params.n) is in
    omega (arith, count, servers, inside, all)

-- an answer ends within the bytes of all
pub answer_ends : (g : Given) (i start n : ℕ) → AreAnswers n g → start ≡ total (take i g.lengths) → i < length g.lengths
    → start + slice_index g.lengths i ≤ length g.bytes
answer_ends g i start n are at inside = omega (arith, at, are.whole, sum_by_more_le (λ (l : ℕ). l) g.lengths i 0 inside)

-- the next one begins where it ends
pub next_start : (lengths : List ℕ) (i start : ℕ) → start ≡ total (take i lengths) → i < length lengths
    → start + slice_index lengths i ≡ total (take (i + 1) lengths)
next_start lengths i start at inside = omega (arith, at, sum_by_more (λ (l : ℕ). l) lengths i 0 inside)

-- one more server has its record
pub records_more : (most : ℕ) (g : Given) (i start : ℕ) (params : SessionParams) (before after : Transcript)
    → before ≡ transcript params (records_of most i g) → start ≡ total (take i g.lengths)
    → after ≡ record before {
      records = before.records
          ++ record_of most (slice_index g.marks i) (take (start + slice_index g.lengths i - start) (drop start g.bytes)) ∷ [];
    }
    → after ≡ transcript params (records_of most (i + 1) g)
records_more most g i start params before after before_is at after_is =
    let mark = slice_index g.marks i in
    let length_is : start + slice_index g.lengths i - start ≡ slice_index g.lengths i = omega arith in
    let answer = ap₂ (λ (n k : ℕ). take n (drop k g.bytes)) length_is at in
    let bytes = take (start + slice_index g.lengths i - start) (drop start g.bytes) in
    after_is
    ∙ ap (λ (t : Transcript). transcript t.params (t.records ++ record_of most mark bytes ∷ [])) before_is
    ∙ ap (λ (l : List ℕ). transcript params (records_of most i g ++ record_of most mark l ∷ [])) answer
    ∙ ap (transcript params) (sym (in_turn-more i (i + 1) (λ k. record_of most (slice_index g.marks k) (answer_at g k) ∷ []) refl))
