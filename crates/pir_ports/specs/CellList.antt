-- The ports in memory side by side, and what the links held before.
use Rattle.std.specs.Prelude.{ℕ, ◌-◌, List, [], ◌∷◌, ◌++◌, get_or, set, replicate, Some}
use Rattle.port_trait.specs.declared.port.TheConstants.{PORT_COUNT}
use Rattle.port_trait.specs.World.{LinkThen, by_links}
use Rattle.port_trait.specs.Number.{link}
use Rattle.pir_ports.specs.MemoryCell.{MemoryCell, empty_cell}

-- the ports by their numbers, what each link held and its count each time that this was kept, and how many times more
-- there is room to keep it
pub record CellList : Type 0 where
  pub cells : List MemoryCell
  pub links : List (List LinkThen)
  pub room : ℕ

-- ports that hold nothing and have no room, of which nothing was kept
abbrev pub no_cells : CellList
no_cells = record { cells = replicate PORT_COUNT empty_cell; links = []; room = 0 }

-- the list with one port changed
abbrev pub with_cell : ℕ → (MemoryCell → MemoryCell) → CellList → CellList
with_cell p f list = record list { cells = set list.cells p (f (get_or list.cells p empty_cell)) }

-- the list with room to keep what the links hold so many times
abbrev pub with_link_room : ℕ → CellList → CellList
with_link_room n list = record list { room = n }

-- what a link holds, and its count
abbrev pub link_in : MemoryCell → LinkThen
link_in c = record { holds = Some c.holds; faults = c.faults }

-- what each link holds, and its count
abbrev pub links_in : List MemoryCell → List LinkThen
links_in cells = by_links (λ i. link_in (get_or cells (link i) empty_cell))

-- the list once it is kept what the links hold
abbrev pub with_links : CellList → CellList
with_links list = record list { links = list.links ++ links_in list.cells ∷ []; room = list.room - 1 }
