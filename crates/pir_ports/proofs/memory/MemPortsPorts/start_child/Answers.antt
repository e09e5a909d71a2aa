use Rattle.std.proofs.Common.{inl, inr, refl, rules}
use Rattle.pir_ports.proofs.memory.MemPortsPorts.start_child.Goals as goal
use Rattle.pir_ports.proofs.memory.MemPortsPorts.start_child.Goals.{then-is_due-via-then-is_due, then-is_due-via-else-is_due+then-not-can_keep_start}

pub returns-then-is_due-clause-exactly : goal.returns-then-is_due-clause-exactly
returns-then-is_due-clause-exactly c = elim c.then-is_due.branch [
  | then-is_due-via-then-is_due w ↦
      (λ e. inl (rw (← c.self.view_is, ← c.deref.ensures.value, ← c.is_due.ensures.calls) (c.is_due.ensures.due.0 w.if-is_due.true)), λ e. refl)
  | then-is_due-via-else-is_due+then-not-can_keep_start w ↦ (λ e. inr (search rules), λ e. refl)
]
