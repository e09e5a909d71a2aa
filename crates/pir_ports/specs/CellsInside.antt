-- The fields of `Cells`, and the ports that they keep.
use Rattle.std.specs.Prelude.{ℕ, ◌+◌, ◌≤◌, ◌≡◌, List, All, length, map, vec_len, vec_capacity}
use Rattle.port_trait.specs.declared.port.TheConstants.{PORT_COUNT}
use Rattle.pir_ports.specs.MemoryCell.{MemoryCell}
use Rattle.pir_ports.specs.CellList.{CellList}
use Rattle.pir_ports.specs.Marks.{links_by, LiesAmong}
use Rattle.pir_ports.specs.declared.cell.Mark.{Mark}
use Rattle.pir_ports.specs.declared.cell_list.Cells.TheInside.{Inside}

-- these ports, what the links held by these marks, and this room
abbrev pub list_by : List MemoryCell → List (List Mark) → ℕ → CellList
list_by cells rows room = record { cells = cells; links = map (links_by cells) rows; room = room }

-- the ports, what the links held by the marks that were kept, and the room
abbrev pub list_of : Inside → CellList
list_of c = list_by c.cells.items c.rows.items c.room

-- there are all ports, each mark lies in what was put, and there is capacity for the room that is left
pub record IsSound (c : Inside) : Type 0 where
  pub ports : length c.cells.items ≡ PORT_COUNT
  pub rows : All (LiesAmong c.cells.items) c.rows.items
  pub room : vec_len c.rows + c.room ≤ vec_capacity c.rows
