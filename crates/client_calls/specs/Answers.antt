-- What the servers of a fetch answered, and the session that it makes.
use Rattle.std.specs.Prelude.{ℕ, ◌≡◌, ◌==◌, if◌then◌else◌, List, [], ◌∷◌, length, take, drop, slice_index, Option, Some, None}
use Rattle.std.specs.List.{sum_by}
use Rattle.wire_frames.specs.Turns.{in_turn}
use Rattle.client_calls.specs.declared.answers.Answers.{Answers}

-- the bytes of all answers, one behind another, the length of each, and for each server 0 where it was silent
pub record Given : Type 0 where
  pub bytes : List ℕ
  pub lengths : List ℕ
  pub marks : List ℕ

-- what a caller holds
abbrev pub given : Answers → Given
given a = record { bytes = a.bytes.now; lengths = a.lengths.now; marks = a.marks.now }

-- what lengths add up to
abbrev pub total : List ℕ → ℕ
total lengths = sum_by (λ l. l) lengths

-- they are the answers of so many servers: each has a length and a mark, and no byte is left over
pub record AreAnswers (servers : ℕ) (g : Given) : Type 0 where
  pub lengths : length g.lengths ≡ servers
  pub marks : length g.marks ≡ servers
  pub whole : total g.lengths ≡ length g.bytes

-- the answer of the server at a place, counted from 0
abbrev pub answer_at : Given → ℕ → List ℕ
answer_at g i = take (slice_index g.lengths i) (drop (total (take i g.lengths)) g.bytes)

-- its record: the prefix of the answer that is as long as a whole one, or that the server was silent
abbrev pub record_of : ℕ → ℕ → List ℕ → Option (List ℕ)
record_of most mark answer = if mark == 0 then None else Some (take most answer)

-- the records of so many servers
abbrev pub records_of : ℕ → ℕ → Given → List (Option (List ℕ))
records_of most servers g = in_turn servers (λ i. record_of most (slice_index g.marks i) (answer_at g i) ∷ [])
