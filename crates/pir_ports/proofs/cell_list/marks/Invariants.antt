use Rattle.std.proofs.Common.{ℕ, ◌<◌, ◌≡◌, length, get_or}
use Rattle.port_trait.specs.declared.port.TheConstants.{LINK_COUNT}
use Rattle.port_trait.specs.Number.{link}
use Rattle.pir_ports.specs.MemoryCell.{empty_cell}
use Rattle.pir_ports.specs.Marks.{Marks, no_mark}
use Rattle.pir_ports.proofs.cell_list.marks.Given as goal

abbrev pub invariant-loop-i : goal.invariant-loop-i
invariant-loop-i l = record {
  size : length l.row ≡ LINK_COUNT;
  so_far : (k : ℕ) → k < l.i → Marks (get_or l.cells (link k) empty_cell) (get_or l.row k no_mark);
}
