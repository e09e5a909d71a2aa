use Rattle.std.proofs.Common.{List, subst}
use Rattle.pir_ports.specs.MemoryCell.{MemoryCell}
use Rattle.pir_ports.specs.Marks.{MarksEach}
use Rattle.pir_ports.proofs.MarksStay.{row_kept}
use Rattle.pir_ports.proofs.cell_list.Cells.keep_links.Goals as goal

pub returns : goal.returns
returns c =
    let m = c.self.inside in
    let marks : MarksEach m.cells.items c.marks-row.result = subst (λ (l : List MemoryCell). MarksEach l c.marks-row.result) c.deref.ensures.value c.marks-row.ensures in
    row_kept m.cells.items m.rows.items c.push.new.self.items m.room c.marks-row.result c.args.self.now marks c.in-Ok.ensures.items c.self.view_is
