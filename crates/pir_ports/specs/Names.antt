-- The fields of `Names`, and the names and starts that they keep.
use Rattle.std.specs.Prelude.{ℕ, ◌+◌, ◌<◌, ◌≤◌, List, [], All, get_or, length, map, vec_len, vec_capacity, slice_range}
use Rattle.pir_ports.specs.NameLog.{NameLog}
use Rattle.pir_ports.specs.WordsInside.{LiesIn}
use Rattle.pir_ports.specs.declared.names.Opening.{Opening}
use Rattle.pir_ports.specs.declared.words.Span.{Span}
use Rattle.pir_ports.specs.declared.names.Names.TheInside.{Inside}

-- the name of an opening, with the number of its port
abbrev pub name_at : List (List ℕ) → Opening → ℕ × List ℕ
name_at words o = (o.port, get_or words o.word [])

-- the word of an opening is among the words
abbrev pub HasWord : List (List ℕ) → Opening → Type 0
HasWord words o = o.word < length words

-- the words of a start
abbrev pub start_at : List (List ℕ) → Span → List (List ℕ)
start_at words s = slice_range words s.from s.to

-- the names and starts among the words
abbrev pub log_of : Inside → NameLog
log_of n = record {
  names = map (name_at n.words.words) n.openings.items;
  starts = map (start_at n.words.words) n.starts.items;
  name_room = n.name_room;
  byte_room = n.words.byte_room;
}

-- the words of each opening and start are kept, and there is capacity for the room that is left
pub record IsSound (n : Inside) : Type 0 where
  pub words : n.name_room ≤ n.words.word_room
  pub openings : vec_len n.openings + n.name_room ≤ vec_capacity n.openings
  pub starts : vec_len n.starts + n.name_room ≤ vec_capacity n.starts
  pub names : All (HasWord n.words.words) n.openings.items
  pub spans : All (LiesIn (length n.words.words)) n.starts.items
