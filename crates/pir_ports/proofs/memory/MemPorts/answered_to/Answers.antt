use Rattle.std.proofs.Common.{◌≡◌, ◌+◌, ℕ, List, get_or, ap, sym, ◌∙◌, arith}
use Rattle.std.specs.Prelude.{Some, slice_get}
use Rattle.std.proofs.lemmas.List.{get_or_read}
use Rattle.port_trait.specs.World.{everyone}
use Rattle.pir_ports.specs.MemoryCell.{MemoryCell, empty_cell}
use Rattle.pir_ports.specs.Memory.{Memory, cell_at}
use Rattle.pir_ports.specs.PortsInside.{memory_of}
use Rattle.pir_ports.proofs.NextGuest.{answer_before}
use Rattle.pir_ports.proofs.memory.MemPorts.answered_to.Goals as goal

pub returns-else-i-self-2 : goal.returns-else-i-self-2
returns-else-i-self-2 c =
    let m = c.self.inside in
    let inner = c.index.result.now in
    let place = c.args.i + 1 in
    let present = (cell_at (memory_of m) 6).accepted in
    let seen : inner ≡ get_or m.guests.items place empty_cell = get_or_read m.guests.items place inner (omega (arith, c.if-i-self.false, c.if-i-self-2.false, c.self.invariant.guests)) c.index.ensures empty_cell in
    ap (λ (l : List ℕ). Some l) (c.accepted-else-i-self-2.ensures ∙ ap (λ (x : MemoryCell). x.accepted) seen)
    ∙ sym (answer_before m.guests.items m.met c.args.i m.since.items present c.self.invariant.guests c.self.invariant.since (omega (arith, c.if-i-self.false, c.if-i-self-2.false)))
    ∙ ap (λ (old : Memory). slice_get (everyone old.since old.gone (cell_at old 6).accepted) c.args.i) c.self.view_is
