-- Places in what was put to a port, which say what it held at one time.
use Rattle.std.specs.Prelude.{ℕ, ◌<◌, ◌≤◌, ◌≡◌, List, get_or, length, slice_range, Some}
use Rattle.port_trait.specs.World.{LinkThen, by_links}
use Rattle.port_trait.specs.declared.port.TheConstants.{LINK_COUNT}
use Rattle.port_trait.specs.Number.{link}
use Rattle.pir_ports.specs.MemoryCell.{MemoryCell, empty_cell}
use Rattle.pir_ports.specs.declared.cell.Mark.{Mark}

-- the mark of a port that holds nothing
abbrev pub no_mark : Mark
no_mark = record { from = 0; to = 0; faults = 0 }

-- the mark says what the port holds, and its count
pub record Marks (c : MemoryCell) (m : Mark) : Type 0 where
  pub holds : slice_range c.bytes m.from m.to ≡ c.holds
  pub within : m.to ≤ length c.bytes
  pub faults : m.faults ≡ c.faults

-- what the mark says of a link to which these bytes were put in all
abbrev pub link_by : List ℕ → Mark → LinkThen
link_by bytes m = record { holds = Some (slice_range bytes m.from m.to); faults = m.faults }

-- what a mark for each link says
abbrev pub links_by : List MemoryCell → List Mark → List LinkThen
links_by cells row = by_links (λ i. link_by (get_or cells (link i) empty_cell).bytes (get_or row i no_mark))

-- each mark of the row lies in what was put to its link
pub record LiesAmong (cells : List MemoryCell) (row : List Mark) : Type 0 where
  pub each : (i : ℕ) → i < LINK_COUNT → (get_or row i no_mark).to ≤ length (get_or cells (link i) empty_cell).bytes

-- each mark of the row says what its link holds, and its count
pub record MarksEach (cells : List MemoryCell) (row : List Mark) : Type 0 where
  pub each : (i : ℕ) → i < LINK_COUNT → Marks (get_or cells (link i) empty_cell) (get_or row i no_mark)
