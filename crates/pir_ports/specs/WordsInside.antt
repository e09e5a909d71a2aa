-- The fields of `Words`, and the words that they keep.
use Rattle.std.specs.Prelude.{ℕ, ◌+◌, ◌≤◌, List, All, length, map, vec_len, vec_capacity, slice_range}
use Rattle.pir_ports.specs.WordList.{WordList}
use Rattle.pir_ports.specs.declared.words.Span.{Span}
use Rattle.pir_ports.specs.declared.words.Words.TheInside.{Inside}

-- the word in this part of the text
abbrev pub word_in : List ℕ → Span → List ℕ
word_in text s = slice_range text s.from s.to

-- the part lies in a list of this length
pub record LiesIn (most : ℕ) (s : Span) : Type 0 where
  pub from : s.from ≤ s.to
  pub to : s.to ≤ most

-- the words in the text
abbrev pub list_of : Inside → WordList
list_of w = record {
  words = map (word_in w.text.items) w.spans.items;
  word_room = w.word_room;
  byte_room = w.byte_room;
}

-- each word lies in the text, and there is capacity for the room that is left
pub record IsSound (w : Inside) : Type 0 where
  pub words : vec_len w.spans + w.word_room ≤ vec_capacity w.spans
  pub bytes : vec_len w.text + w.byte_room ≤ vec_capacity w.text
  pub spans : All (LiesIn (length w.text.items)) w.spans.items
