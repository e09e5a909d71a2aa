use Rattle.std.proofs.Common.{◌≡◌, ℕ, ap, sym, subst, ◌∙◌, inl, inr, refl, rules}
use Rattle.port_trait.specs.Number.{number}
use Rattle.port_trait.specs.Moves.{Touches, named}
use Rattle.pir_ports.specs.NameLog.{NameLog, with_name}
use Rattle.pir_ports.specs.Memory.{Memory, world_from, world_of, crowd_of}
use Rattle.pir_ports.specs.PortsInside.{memory_of}
use Rattle.pir_ports.proofs.NamesOfPort.{told_name, touches_name}
use Rattle.pir_ports.proofs.memory.MemPortsPorts.open.Goals as goal
use Rattle.pir_ports.proofs.memory.MemPortsPorts.open.Goals.{then-is_due-via-then-is_due, then-is_due-via-else-is_due+then-not-can_keep}

pub returns-then-is_due-clause-exactly : goal.returns-then-is_due-clause-exactly
returns-then-is_due-clause-exactly c = elim c.then-is_due.branch [
  | then-is_due-via-then-is_due w ↦
      (λ e. inl (rw (← c.self.view_is, ← c.deref.ensures.value, ← c.is_due.ensures.calls) (c.is_due.ensures.due.0 w.if-is_due.true)), λ e. refl)
  | then-is_due-via-else-is_due+then-not-can_keep w ↦ (λ e. inr (search rules), λ e. refl)
]

pub returns-clause-ok : goal.returns-clause-ok
returns-clause-ok c =
    let m = c.self.inside in
    let crowd = crowd_of (memory_of m) in
    let p = number c.args.p in
    let name = c.args.name.now in
    let log : c.push.new.self ≡ with_name p name m.names = c.push.ensures ∙ ap (λ (k : ℕ). with_name k name m.names) c.number-2.ensures.is in
    ap (λ (l : NameLog). (world_from m.cells.cells l crowd).at p) log
    ∙ told_name m.cells.cells m.names crowd p name
    ∙ ap (λ (old : Memory). named name ((world_of old).at p)) c.self.view_is

pub returns-clause-others : goal.returns-clause-others
returns-clause-others c =
    let m = c.self.inside in
    let crowd = crowd_of (memory_of m) in
    let p = number c.args.p in
    let name = c.args.name.now in
    let log : c.push.new.self ≡ with_name p name m.names = c.push.ensures ∙ ap (λ (k : ℕ). with_name k name m.names) c.number-2.ensures.is in
    subst (λ (old : Memory). Touches p (world_of old) (world_from m.cells.cells c.push.new.self crowd)) c.self.view_is
    (subst (λ (l : NameLog). Touches p (world_from m.cells.cells m.names crowd) (world_from m.cells.cells l crowd)) (sym log)
    (touches_name m.cells.cells m.names crowd p name))
