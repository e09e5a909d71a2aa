use Rattle.std.proofs.Common.{◌≡◌, ◌<◌, ◌∙◌, ap, subst, sym, length, get_or, set, length-set}
use Rattle.std.proofs.lemmas.List.{get_or_read}
use Rattle.pir_ports.specs.MemoryCell.{MemoryCell, empty_cell, fault}
use Rattle.pir_ports.specs.CellList.{CellList}
use Rattle.pir_ports.proofs.MarksStay.{Extends, one_changed, still_extends, rows_lie}
use Rattle.pir_ports.proofs.cell_list.Cells.fault.Goals as goal

pub returns : goal.returns
returns c =
    let m = c.self.inside in
    let cells = m.cells.items in
    let lt : c.args.p < length cells = subst (λ (l : CellList). c.args.p < length l.cells) (sym c.self.view_is) c.requires in
    let cell = get_or_read cells c.args.p c.index_mut-cell.result.now lt c.index_mut-cell.ensures.value empty_cell in
    let is : c.fault.new.self ≡ fault (get_or cells c.args.p empty_cell) = c.fault.ensures ∙ ap (fault) cell in
    let extends : Extends cells (set cells c.args.p c.fault.new.self) = still_extends cells c.args.p c.fault.new.self lt (ap (λ (x : MemoryCell). x.bytes) is) in
    one_changed cells m.rows.items m.room c.args.p (fault) c.fault.new.self c.args.self.now extends c.self.invariant.rows is c.self.view_is

pub invariant_of-self : goal.invariant_of-self
invariant_of-self c =
    let m = c.self.inside in
    let cells = m.cells.items in
    let lt : c.args.p < length cells = subst (λ (l : CellList). c.args.p < length l.cells) (sym c.self.view_is) c.requires in
    let cell = get_or_read cells c.args.p c.index_mut-cell.result.now lt c.index_mut-cell.ensures.value empty_cell in
    let is : c.fault.new.self ≡ fault (get_or cells c.args.p empty_cell) = c.fault.ensures ∙ ap (fault) cell in
    let extends : Extends cells (set cells c.args.p c.fault.new.self) = still_extends cells c.args.p c.fault.new.self lt (ap (λ (x : MemoryCell). x.bytes) is) in
    record {
      ports = length-set cells c.args.p c.fault.new.self ∙ c.self.invariant.ports;
      rows = rows_lie cells (set cells c.args.p c.fault.new.self) extends m.rows.items c.self.invariant.rows;
      room = c.self.invariant.room;
    }
