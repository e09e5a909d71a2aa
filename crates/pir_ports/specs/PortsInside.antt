-- The fields of `MemPorts`, and the memory that they keep.
use Rattle.std.specs.Prelude.{ℕ, ◌+◌, ◌<◌, ◌≤◌, ◌≡◌, List, length, map, take, drop, vec_capacity}
use Rattle.pir_ports.specs.MemoryCell.{MemoryCell}
use Rattle.pir_ports.specs.Memory.{Memory}
use Rattle.port_trait.specs.declared.port.TheConstants.{PORT_COUNT}
use Rattle.pir_ports.specs.declared.memory.MemPorts.TheInside.{Inside}

-- what a port took
abbrev pub given_to : MemoryCell → List ℕ
given_to c = c.accepted

-- the memory. As guests come in, each leaves the cell of Guest as it was before in its own place
abbrev pub memory_of : Inside → Memory
memory_of m = record {
  cut = m.cut;
  fail = m.fail.items;
  calls = m.calls;
  cells = m.cells.cells;
  waiting = drop m.met m.guests.items;
  gone = map given_to (drop 1 (take m.met m.guests.items));
  since = m.since.items;
  links = m.cells.links;
  log = m.names;
}

-- calls move something, there are all ports, and there is capacity for the count of each guest and for what the links hold
-- as it comes in
pub record IsSound (m : Inside) : Type 0 where
  pub cuts : 0 < m.cut
  pub ports : length m.cells.cells ≡ PORT_COUNT
  pub guests : m.met ≤ length m.guests.items
  pub since : length m.since.items ≡ m.met
  pub counts : length m.guests.items ≤ vec_capacity m.since
  pub links : length m.guests.items ≤ m.met + m.cells.room
