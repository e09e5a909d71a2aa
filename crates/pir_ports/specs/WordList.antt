-- Words that are kept one after another, in room that was taken before.
use Rattle.std.specs.Prelude.{ℕ, ◌-◌, ◌≤◌, List, [], ◌++◌, length, sum_by}

-- the words, and the room left: for so many words, with so many bytes in all
pub record WordList : Type 0 where
  pub words : List (List ℕ)
  pub word_room : ℕ
  pub byte_room : ℕ

-- no words, and room for so many with so many bytes
abbrev pub no_words : ℕ → ℕ → WordList
no_words words bytes = record { words = []; word_room = words; byte_room = bytes }

-- how many bytes the words have in all
abbrev pub total : List (List ℕ) → ℕ
total words = sum_by (λ (w : List ℕ). length w) words

-- there is room for these words
pub record Fits (more : List (List ℕ)) (list : WordList) : Type 0 where
  pub words : length more ≤ list.word_room
  pub bytes : total more ≤ list.byte_room

-- the list with these words behind the others
abbrev pub with_words : List (List ℕ) → WordList → WordList
with_words more list = record {
  words = list.words ++ more;
  word_room = list.word_room - length more;
  byte_room = list.byte_room - total more;
}
