use Rattle.std.proofs.Common.{◌≡◌, ◌<◌, ◌∙◌, ap, subst, sym, length, get_or, set, length-set}
use Rattle.std.proofs.lemmas.List.{get_or_read}
use Rattle.pir_ports.specs.MemoryCell.{MemoryCell, empty_cell, hand}
use Rattle.pir_ports.specs.CellList.{CellList}
use Rattle.pir_ports.proofs.MarksStay.{Extends, one_changed, still_extends, rows_lie}
use Rattle.pir_ports.proofs.cell_list.Cells.hand.Goals as goal

pub returns-clause-cells : goal.returns-clause-cells
returns-clause-cells c =
    let m = c.self.inside in
    let cells = m.cells.items in
    let lt : c.args.p < length cells = subst (λ (l : CellList). c.args.p < length l.cells) (sym c.self.view_is) c.requires in
    let cell = get_or_read cells c.args.p c.index_mut-cell.result.now lt c.index_mut-cell.ensures.value empty_cell in
    let is : c.hand.new.self ≡ hand c.hand.result (get_or cells c.args.p empty_cell) = c.hand.ensures.cell ∙ ap (hand c.hand.result) cell in
    let extends : Extends cells (set cells c.args.p c.hand.new.self) = still_extends cells c.args.p c.hand.new.self lt (ap (λ (x : MemoryCell). x.bytes) is) in
    one_changed cells m.rows.items m.room c.args.p (hand c.hand.result) c.hand.new.self c.args.self.now extends c.self.invariant.rows is c.self.view_is

pub invariant_of-self : goal.invariant_of-self
invariant_of-self c =
    let m = c.self.inside in
    let cells = m.cells.items in
    let lt : c.args.p < length cells = subst (λ (l : CellList). c.args.p < length l.cells) (sym c.self.view_is) c.requires in
    let cell = get_or_read cells c.args.p c.index_mut-cell.result.now lt c.index_mut-cell.ensures.value empty_cell in
    let is : c.hand.new.self ≡ hand c.hand.result (get_or cells c.args.p empty_cell) = c.hand.ensures.cell ∙ ap (hand c.hand.result) cell in
    let extends : Extends cells (set cells c.args.p c.hand.new.self) = still_extends cells c.args.p c.hand.new.self lt (ap (λ (x : MemoryCell). x.bytes) is) in
    record {
      ports = length-set cells c.args.p c.hand.new.self ∙ c.self.invariant.ports;
      rows = rows_lie cells (set cells c.args.p c.hand.new.self) extends m.rows.items c.self.invariant.rows;
      room = c.self.invariant.room;
    }
