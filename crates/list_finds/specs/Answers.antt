-- What is said of a key.
use Rattle.std.specs.Prelude.{◌≡◌, ◌≢◌, ℕ, ◌<◌, ◌≤◌, List, [], length, slice_index_or, Contains, Option, Some, None}
use Rattle.std.specs.Borrow.{Bor}
use Rattle.key_table.specs.Entry.{Pair}
use Rattle.key_table.specs.Table.{IsRowOf}
use Rattle.key_table.specs.Looked.{LacksDigest, pair}
use Rattle.wire_frames.specs.Turns.{piece}
use Rattle.list_finds.specs.Known.{digest_in, making_of, row_in}
use Rattle.list_finds.specs.declared.answers.Answer.{Answer}
use Rattle.list_finds.specs.declared.answers.Answer.TheVariants.{Unknown, Broken, Absent, Present}
use Rattle.list_finds.specs.declared.known_list.KnownList.{KnownList}

-- the same answer, with f of its value
abbrev pub map_answer : {A B : Type 0} → (A → B) → Answer A → Answer B
map_answer f Unknown = Unknown
map_answer f Broken = Broken
map_answer f Absent = Absent
map_answer f (Present value) = Present (f value)

-- an answer whose value lies elsewhere
abbrev pub answer_of : Answer (Bor (List ℕ)) → Answer (List ℕ)
answer_of answer = map_answer (λ value. value.now) answer

-- the value of an answer: no byte where it has none
abbrev pub value_of : Answer (List ℕ) → List ℕ
value_of Unknown = []
value_of Broken = []
value_of Absent = []
value_of (Present value) = value

-- the value has at most so many bytes
abbrev pub ValueFits : ℕ → Answer (List ℕ) → Type 0
ValueFits most answer = length (value_of answer) ≤ most

-- the row of a key in a table of so many rows is these bytes, and has these pairs
abbrev pub IsRowFor : KnownList → ℕ → List ℕ → List ℕ → List Pair → Type 0
IsRowFor list rows key row pairs = IsRowOf (making_of list rows) (row_in list rows key) row pairs

-- the answer to a key by its row of a table of so many rows: the value that stands with its digest there, or that none
-- does. The row is broken where it is that row of no table of the list
abbrev pub AnswersInRow : KnownList → ℕ → List ℕ → List ℕ → Answer (List ℕ) → Type 0
AnswersInRow list rows row key Unknown = ⊥
AnswersInRow list rows row key Broken = (pairs : List Pair) → IsRowFor list rows key row pairs → ⊥
AnswersInRow list rows row key Absent =
    (pairs : List Pair) × IsRowFor list rows key row pairs × LacksDigest pairs (digest_in list key)
AnswersInRow list rows row key (Present value) =
    (pairs : List Pair) × IsRowFor list rows key row pairs × Contains pairs (pair (digest_in list key) value)

-- the row at a place of a query, by the one block that the verdict on it lists, if it does: that has the rows of all keys of
-- the query, one behind another
abbrev pub row_at : ℕ → Option (List ℕ) → ℕ → Option (List ℕ)
row_at width None place = None
row_at width (Some block) place = Some (piece width place block)

-- the answer to a key by its row, if that came
abbrev pub AnswersBy : KnownList → ℕ → Option (List ℕ) → List ℕ → Answer (List ℕ) → Type 0
AnswersBy list rows None key answer = answer ≡ Unknown
AnswersBy list rows (Some row) key answer = AnswersInRow list rows row key answer

-- these are the answers to the keys of a query
pub record AreAnswers (list : KnownList) (rows width : ℕ) (block : Option (List ℕ)) (keys : List (List ℕ))
    (answers : List (Answer (List ℕ))) : Type 0 where
  pub count : length answers ≡ length keys
  pub each : (place : ℕ) → place < length keys
      → AnswersBy list rows (row_at width block place) (slice_index_or keys place []) (slice_index_or answers place Unknown)

-- the answer to a key, counted from 0
abbrev pub answer_to : List (Answer (List ℕ)) → ℕ → Answer (List ℕ)
answer_to answers i = slice_index_or answers i Unknown

-- no row came that is none of the list
abbrev pub HasNoBroken : List (Answer (List ℕ)) → Type 0
HasNoBroken answers = (i : ℕ) → i < length answers → answer_to answers i ≢ Broken

-- for this key, and for none before it, a row came that is none of the list
pub record IsFirstBroken (answers : List (Answer (List ℕ))) (i : ℕ) : Type 0 where
  pub within : i < length answers
  pub broken : answer_to answers i ≡ Broken
  pub first : (j : ℕ) → j < i → answer_to answers j ≢ Broken
