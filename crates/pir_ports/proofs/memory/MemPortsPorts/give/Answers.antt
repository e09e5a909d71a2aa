use Rattle.std.proofs.Common.{inl, inr, refl, ap, sym, ◌∙◌}
use Rattle.pir_ports.specs.MemoryCell.{MemoryCell}
use Rattle.pir_ports.proofs.memory.MemPortsPorts.give.Goals as goal
use Rattle.pir_ports.proofs.memory.MemPortsPorts.give.Goals.{then-is_due-via-then-is_due, then-is_due-via-else-is_due+then-room-eq0}

pub returns-then-is_due-clause-exactly : goal.returns-then-is_due-clause-exactly
returns-then-is_due-clause-exactly c = elim c.then-is_due.branch [
  | then-is_due-via-then-is_due w ↦
      (λ e. inl (rw (← c.self.view_is, ← c.deref.ensures.value, ← c.is_due.ensures.calls) (c.is_due.ensures.due.0 w.if-is_due.true)), λ e. refl)
  | then-is_due-via-else-is_due+then-room-eq0 w ↦
      (λ e. inr (rw (← c.self.view_is, ← w.number.ensures.is) (sym (ap (λ (x : MemoryCell). x.room) w.at.ensures) ∙ sym w.room.ensures ∙ w.if-room-eq0.true)), λ e. refl)
]
