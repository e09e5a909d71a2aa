use Rattle.std.proofs.Common.{refl}
use Rattle.pir_ports.proofs.memory.MemPortsPorts.take.Goals as goal

pub returns-then-is_due-clause-exactly : goal.returns-then-is_due-clause-exactly
returns-then-is_due-clause-exactly c =
    (λ e. rw (← c.self.view_is, ← c.deref.ensures.value, ← c.is_due.ensures.calls) (c.is_due.ensures.due.0 c.if-is_due.true), λ e. refl)
