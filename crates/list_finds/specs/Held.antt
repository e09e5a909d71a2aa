-- Answers in memory.
use Rattle.std.specs.Prelude.{ℕ, ◌-◌, ◌≤◌, ⊤, List, [], ◌∷◌, ◌++◌, length, slice_range}
use Rattle.list_finds.specs.declared.answers.Answer.{Answer}
use Rattle.list_finds.specs.declared.answers.Answer.TheVariants.{Unknown, Broken, Absent, Present}
use Rattle.list_finds.specs.declared.answers.Span.{Span}

-- the answers so far, how many more there is room for, and how many bytes a value has at most
pub record Held : Type 0 where
  pub answers : List (Answer (List ℕ))
  pub room : ℕ
  pub most : ℕ

-- no answer yet, with room for so many, of values of at most so many bytes
abbrev pub no_answers : ℕ → ℕ → Held
no_answers keys most = record { answers = []; room = keys; most = most }

-- the same with the answer to one more key
abbrev pub with_answer : Held → Answer (List ℕ) → Held
with_answer held answer = record held { answers = held.answers ++ answer ∷ []; room = held.room - 1 }

-- the value that lies there among the bytes
abbrev pub value_at : List ℕ → Span → List ℕ
value_at bytes span = slice_range bytes span.start span.end

-- the value of the answer lies among the bytes
abbrev pub LiesIn : List ℕ → Answer Span → Type 0
LiesIn bytes Unknown = ⊤
LiesIn bytes Broken = ⊤
LiesIn bytes Absent = ⊤
LiesIn bytes (Present span) = (span.start ≤ span.end) × (span.end ≤ length bytes)
