use Rattle.std.proofs.Common.{◌≡◌, ◌<◌, ◌∙◌, ap, subst, sym, length, get_or, set, length-set}
use Rattle.std.proofs.lemmas.List.{get_or_read}
use Rattle.pir_ports.specs.MemoryCell.{MemoryCell, empty_cell, with_room}
use Rattle.pir_ports.specs.CellList.{CellList}
use Rattle.port_trait.proofs.Cells.{at_err}
use Rattle.pir_ports.proofs.MarksStay.{Extends, one_changed, one_same, still_extends, rows_lie}
use Rattle.pir_ports.proofs.cell_list.Cells.set_room.Goals as goal

pub returns-in_err-set_room-clause-err : goal.returns-in_err-set_room-clause-err
returns-in_err-set_room-clause-err c =
    let m = c.self.inside in
    let cells = m.cells.items in
    let lt : c.args.p < length cells = subst (λ (l : CellList). c.args.p < length l.cells) (sym c.self.view_is) c.requires in
    let cell = get_or_read cells c.args.p c.index_mut-cell.result.now lt c.index_mut-cell.ensures.value empty_cell in
    let is : c.set_room.new.self ≡ get_or cells c.args.p empty_cell = c.in_err-set_room.ensures.err ∙ cell in
    let extends : Extends cells (set cells c.args.p c.set_room.new.self) = still_extends cells c.args.p c.set_room.new.self lt (ap (λ (x : MemoryCell). x.bytes) is) in
    at_err _ (one_same cells m.rows.items m.room c.args.p c.set_room.new.self c.args.self.now extends c.self.invariant.rows is c.self.view_is)

pub invariant_of-self : goal.invariant_of-self
invariant_of-self c =
    let m = c.self.inside in
    let cells = m.cells.items in
    let lt : c.args.p < length cells = subst (λ (l : CellList). c.args.p < length l.cells) (sym c.self.view_is) c.requires in
    let cell = get_or_read cells c.args.p c.index_mut-cell.result.now lt c.index_mut-cell.ensures.value empty_cell in
    let is : c.set_room.new.self ≡ get_or cells c.args.p empty_cell = c.in_err-set_room.ensures.err ∙ cell in
    let extends : Extends cells (set cells c.args.p c.set_room.new.self) = still_extends cells c.args.p c.set_room.new.self lt (ap (λ (x : MemoryCell). x.bytes) is) in
    record {
      ports = length-set cells c.args.p c.set_room.new.self ∙ c.self.invariant.ports;
      rows = rows_lie cells (set cells c.args.p c.set_room.new.self) extends m.rows.items c.self.invariant.rows;
      room = c.self.invariant.room;
    }

pub returns-clause-ok : goal.returns-clause-ok
returns-clause-ok c =
    let m = c.self.inside in
    let cells = m.cells.items in
    let lt : c.args.p < length cells = subst (λ (l : CellList). c.args.p < length l.cells) (sym c.self.view_is) c.requires in
    let cell = get_or_read cells c.args.p c.index_mut-cell.result.now lt c.index_mut-cell.ensures.value empty_cell in
    let is : c.set_room.new.self ≡ with_room c.args.n (get_or cells c.args.p empty_cell) = c.in_ok-set_room.ensures.ok ∙ ap (with_room c.args.n) cell in
    let extends : Extends cells (set cells c.args.p c.set_room.new.self) = still_extends cells c.args.p c.set_room.new.self lt (ap (λ (x : MemoryCell). x.bytes) is) in
    one_changed cells m.rows.items m.room c.args.p (with_room c.args.n) c.set_room.new.self c.args.self.now extends c.self.invariant.rows is c.self.view_is

pub invariant_of-self-2 : goal.invariant_of-self-2
invariant_of-self-2 c =
    let m = c.self.inside in
    let cells = m.cells.items in
    let lt : c.args.p < length cells = subst (λ (l : CellList). c.args.p < length l.cells) (sym c.self.view_is) c.requires in
    let cell = get_or_read cells c.args.p c.index_mut-cell.result.now lt c.index_mut-cell.ensures.value empty_cell in
    let is : c.set_room.new.self ≡ with_room c.args.n (get_or cells c.args.p empty_cell) = c.in_ok-set_room.ensures.ok ∙ ap (with_room c.args.n) cell in
    let extends : Extends cells (set cells c.args.p c.set_room.new.self) = still_extends cells c.args.p c.set_room.new.self lt (ap (λ (x : MemoryCell). x.bytes) is) in
    record {
      ports = length-set cells c.args.p c.set_room.new.self ∙ c.self.invariant.ports;
      rows = rows_lie cells (set cells c.args.p c.set_room.new.self) extends m.rows.items c.self.invariant.rows;
      room = c.self.invariant.room;
    }
