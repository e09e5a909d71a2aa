use Rattle.std.proofs.Common.{◌≡◌, ◌∙◌, ap, arith, map, replicate}
use Rattle.pir_ports.specs.MemoryCell.{empty_cell}
use Rattle.port_trait.specs.declared.port.TheConstants.{PORT_COUNT}
use Rattle.pir_ports.specs.Marks.{links_by}
use Rattle.pir_ports.proofs.cell_list.Cells.new.Goals as goal

pub returns : goal.returns
returns c =
    let all : c.loop-i._i ≡ PORT_COUNT = omega arith in
    let cells : c.loop-i.cells.items ≡ replicate PORT_COUNT empty_cell = c.loop-i.invariant ∙ ap (λ k. replicate k empty_cell) all in
    λ i. record { cells = cells i; links = map (links_by (cells i)) (c.new-2.ensures.items i); room = 0 }
