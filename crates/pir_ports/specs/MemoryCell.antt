-- One port in memory.
use Rattle.std.specs.Prelude.{ℕ, ◌+◌, ◌-◌, ◌^◌, min, List, [], ◌++◌, length, drop}

-- the bytes that were put in all, those of them that are still to come, the bytes taken, how many more can be taken,
-- the count of failed calls
pub record MemoryCell : Type 0 where
  pub bytes : List ℕ
  pub holds : List ℕ
  pub accepted : List ℕ
  pub room : ℕ
  pub faults : ℕ

-- a port that holds nothing, took nothing and has no room
abbrev pub empty_cell : MemoryCell
empty_cell = record { bytes = []; holds = []; accepted = []; room = 0; faults = 0 }

-- the cell after these bytes were put behind those still to come
abbrev pub put : List ℕ → MemoryCell → MemoryCell
put bytes c = record c { bytes = c.bytes ++ bytes; holds = c.holds ++ bytes }

-- the cell with room for n bytes more
abbrev pub with_room : ℕ → MemoryCell → MemoryCell
with_room n c = record c { room = n }

-- the cell after n bytes were handed out
abbrev pub hand : ℕ → MemoryCell → MemoryCell
hand n c = record c { holds = drop n c.holds }

-- the cell after these bytes were taken
abbrev pub accept : List ℕ → MemoryCell → MemoryCell
accept bytes c = record c { accepted = c.accepted ++ bytes; room = c.room - length bytes }

-- the cell after a failed call
abbrev pub fault : MemoryCell → MemoryCell
fault c = record c { faults = min (c.faults + 1) (2 ^ 64 - 1) }

-- the cell of a guest that comes in after another: it was given nothing, and the count of failed calls goes on
abbrev pub came_in : MemoryCell → MemoryCell → MemoryCell
came_in guest before = record guest { accepted = []; faults = before.faults }

-- how many bytes a call moves: as many as were asked for and are there, and at most the cut
abbrev pub moved : ℕ → ℕ → ℕ → ℕ
moved cut asked there = min cut (min asked there)
