use Rattle.std.proofs.Common.{◌≡◌, ◌∙◌, ap, get_or, length-set, arith, set}
use Rattle.std.proofs.lemmas.List.{get_or_read}
use Rattle.pir_ports.specs.MemoryCell.{empty_cell, came_in}
use Rattle.pir_ports.specs.CellList.{CellList}
use Rattle.pir_ports.proofs.MarksStay.{guest_extends, one_changed, rows_lie}
use Rattle.pir_ports.proofs.cell_list.Cells.let_in.Goals as goal

pub returns-clause-present : goal.returns-clause-present
returns-clause-present c =
    let m = c.self.inside in
    let cells = m.cells.items in
    let cell = get_or_read cells 6 c.index_mut-present.result.now (omega (arith, c.self.invariant.ports)) c.index_mut-present.ensures.value empty_cell in
    let is : c.let_in.new.self ≡ came_in c.args.next.now (get_or cells 6 empty_cell) = c.let_in.ensures.present ∙ ap (came_in c.args.next.now) cell in
    one_changed cells m.rows.items m.room 6 (came_in c.args.next.now) c.let_in.new.self c.args.self.now (guest_extends cells c.let_in.new.self) c.self.invariant.rows is c.self.view_is

pub returns-clause-before : goal.returns-clause-before
returns-clause-before c =
    let m = c.self.inside in
    let cells = m.cells.items in
    let cell = get_or_read cells 6 c.index_mut-present.result.now (omega (arith, c.self.invariant.ports)) c.index_mut-present.ensures.value empty_cell in
    c.let_in.ensures.before ∙ cell ∙ ap (λ (l : CellList). get_or l.cells 6 empty_cell) c.self.view_is

pub invariant_of-self : goal.invariant_of-self
invariant_of-self c =
    let m = c.self.inside in
    let cells = m.cells.items in
    record {
      ports = length-set cells 6 c.let_in.new.self ∙ c.self.invariant.ports;
      rows = rows_lie cells (set cells 6 c.let_in.new.self) (guest_extends cells c.let_in.new.self) m.rows.items c.self.invariant.rows;
      room = c.self.invariant.room;
    }
