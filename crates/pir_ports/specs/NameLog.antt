-- The names that ports in memory were opened with, and the words that children were started with, in room that was taken
-- before.
use Rattle.std.specs.Prelude.{ℕ, ◌-◌, ◌<◌, ◌≤◌, List, [], ◌∷◌, ◌++◌, length, if◌then◌else◌, ◌==◌}
use Rattle.pir_ports.specs.WordList.{total}

-- the names in the order of the openings, each with the number of its port, the lists of words in the order of the
-- starts, and the room left: for so many words, with so many bytes in all. A name is a word
pub record NameLog : Type 0 where
  pub names : List (ℕ × List ℕ)
  pub starts : List (List (List ℕ))
  pub name_room : ℕ
  pub byte_room : ℕ

-- no names and no starts, and room for so many words with so many bytes
abbrev pub no_names : ℕ → ℕ → NameLog
no_names names bytes = record { names = []; starts = []; name_room = names; byte_room = bytes }

-- the names of one port
abbrev pub names_of : ℕ → List (ℕ × List ℕ) → List (List ℕ)
names_of p [] = []
names_of p (n ∷ ns) = if n.0 == p then n.1 ∷ names_of p ns else names_of p ns

-- there is room for the name
pub record CanKeep (name : List ℕ) (log : NameLog) : Type 0 where
  pub names : 0 < log.name_room
  pub bytes : length name ≤ log.byte_room

-- the log with one name more
abbrev pub with_name : ℕ → List ℕ → NameLog → NameLog
with_name p name log = record log {
  names = log.names ++ (p, name) ∷ [];
  name_room = log.name_room - 1;
  byte_room = log.byte_room - length name;
}

-- there is room for the words of a start, which counts one word more than it has
pub record CanKeepStart (words : List (List ℕ)) (log : NameLog) : Type 0 where
  pub names : length words < log.name_room
  pub bytes : total words ≤ log.byte_room

-- the log with one start more
abbrev pub with_start : List (List ℕ) → NameLog → NameLog
with_start words log = record log {
  starts = log.starts ++ words ∷ [];
  name_room = log.name_room - length words - 1;
  byte_room = log.byte_room - total words;
}
