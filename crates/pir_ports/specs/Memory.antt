-- Ports in memory.
use Rattle.std.specs.Prelude.{ℕ, ◌+◌, ◌-◌, ◌^◌, min, Contains, List, [], ◌∷◌, get_or, set, replicate, map, drop, Option, Some, ◌++◌, slice_get}
use Rattle.std.specs.Option.{option_map, option_and_then}
use Rattle.port_trait.specs.declared.port.TheConstants.{PORT_COUNT}
use Rattle.port_trait.specs.declared.port.Port.{Port}
use Rattle.port_trait.specs.Number.{number}
use Rattle.port_trait.specs.World.{Cell, Crowd, LinkThen, World, everyone}
use Rattle.pir_ports.specs.MemoryCell.{MemoryCell, empty_cell, came_in}
use Rattle.pir_ports.specs.CellList.{links_in}
use Rattle.pir_ports.specs.NameLog.{NameLog, no_names, names_of, with_name, with_start}

-- the most bytes that a call moves, the numbers of the calls that fail, the count of calls so far,
-- the ports by their numbers, the guests still to come, what those that left were given, the count of Guest as
-- each so far came in, what each link held then and its count, and the names that the ports were opened with, beside
-- the words that children were started with
pub record Memory : Type 0 where
  pub cut : ℕ
  pub fail : List ℕ
  pub calls : ℕ
  pub cells : List MemoryCell
  pub waiting : List MemoryCell
  pub gone : List (List ℕ)
  pub since : List ℕ
  pub links : List (List LinkThen)
  pub log : NameLog

-- one port
abbrev pub cell_at : Memory → ℕ → MemoryCell
cell_at m p = get_or m.cells p empty_cell

-- what is told of a port that was opened with these names: everything but its room
abbrev pub told : List (List ℕ) → MemoryCell → Cell
told names c = record {
  opened = Some names;
  holds = Some c.holds;
  accepted = Some c.accepted;
  faults = c.faults;
}

-- what is told of ports that are these cells, beside these guests and this log of names and starts
abbrev pub world_from : List MemoryCell → NameLog → Crowd → World
world_from cells log crowd = record {
  at = λ p. told (names_of p log.names) (get_or cells p empty_cell);
  crowd = crowd;
  started = Some log.starts;
}

-- what is still to come from a port
abbrev pub held_by : MemoryCell → List ℕ
held_by c = c.holds

-- what is told of the guests: everything but their room
abbrev pub crowd_of : Memory → Crowd
crowd_of m = record {
  guests = Some (map held_by m.waiting);
  since = Some m.since;
  gone = Some m.gone;
  links = Some m.links;
}

-- what ports in memory tell
abbrev pub world_of : Memory → World
world_of m = world_from m.cells m.log (crowd_of m)

-- what they tell of a port
abbrev pub told_at : Memory → Port → Cell
told_at m p = (world_of m).at (number p)

-- what is told of the port after bytes were put behind those still to come
abbrev pub filled : List ℕ → Cell → Cell
filled bytes c = record c { holds = option_map (λ h. h ++ bytes) c.holds }

-- what is told of the guests after one more joined those still to come
abbrev pub joined_by : List ℕ → Crowd → Crowd
joined_by bytes c = record c { guests = option_map (λ gs. gs ++ bytes ∷ []) c.guests }

-- ports that hold nothing and have no room, with no guests, before any call, with room for so many words with so
-- many bytes in all
abbrev pub fresh : ℕ → List ℕ → ℕ → ℕ → Memory
fresh cut fail names bytes = record {
  cut = cut;
  fail = fail;
  calls = 0;
  cells = replicate PORT_COUNT empty_cell;
  waiting = [];
  gone = [];
  since = [];
  links = [];
  log = no_names names bytes;
}

-- the memory with one port changed
abbrev pub changed : ℕ → (MemoryCell → MemoryCell) → Memory → Memory
changed p f m = record m { cells = set m.cells p (f (cell_at m p)) }

-- the memory with one name more
abbrev pub opened : ℕ → List ℕ → Memory → Memory
opened p name m = record m { log = with_name p name m.log }

-- the memory with one child more that was started
abbrev pub begun : List (List ℕ) → Memory → Memory
begun words m = record m { log = with_start words m.log }

-- word j of list i
abbrev pub word_at : List (List (List ℕ)) → ℕ → ℕ → Option (List ℕ)
word_at starts i j = option_and_then (λ words. slice_get words j) (slice_get starts i)

-- the memory with one guest more to come, who has these bytes and room for n
abbrev pub invited : List ℕ → ℕ → Memory → Memory
invited bytes n m = record m {
  waiting = m.waiting ++ (record { bytes = bytes; holds = bytes; accepted = []; room = n; faults = 0 }) ∷ [];
}

-- the memory once the first of the guests still to come is in, and the one before has left
abbrev pub met : Memory → Memory
met m = record m {
  cells = set m.cells 6 (came_in (get_or m.waiting 0 empty_cell) (cell_at m 6));
  waiting = drop 1 m.waiting;
  gone = everyone m.since m.gone (cell_at m 6).accepted;
  since = m.since ++ (cell_at m 6).faults ∷ [];
  links = m.links ++ links_in m.cells ∷ [];
}

-- the count of calls after one more
abbrev pub next_call : ℕ → ℕ
next_call calls = min (calls + 1) (2 ^ 64 - 1)

-- the memory once one call more is counted
abbrev pub called : Memory → Memory
called m = record m { calls = next_call m.calls }

-- the next call is one of those that fail
abbrev pub IsDue : Memory → Type 0
IsDue m = Contains m.fail (next_call m.calls)
