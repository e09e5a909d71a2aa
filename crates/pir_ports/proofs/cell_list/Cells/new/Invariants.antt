use Rattle.std.proofs.Common.{◌≡◌, replicate}
use Rattle.pir_ports.specs.MemoryCell.{empty_cell}
use Rattle.pir_ports.proofs.cell_list.Cells.new.Given as goal

abbrev pub invariant-loop-i : goal.invariant-loop-i
invariant-loop-i l = l.cells.items ≡ replicate l._i empty_cell
