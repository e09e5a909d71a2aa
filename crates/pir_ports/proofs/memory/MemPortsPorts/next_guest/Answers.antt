use Rattle.std.proofs.Common.{◌≡◌, ◌<◌, ◌++◌, ◌∷◌, ℕ, [], length, drop, get_or, inl, inr, refl, ap, sym, subst, ◌∙◌, arith, rules, length-drop}
use Rattle.std.proofs.lemmas.List.{drop_all, get_or_read}
use Rattle.port_trait.specs.Guests.{Meets}
use Rattle.pir_ports.specs.MemoryCell.{MemoryCell, empty_cell, came_in}
use Rattle.pir_ports.specs.CellList.{CellList, with_cell, with_links}
use Rattle.pir_ports.specs.Memory.{Memory, world_of, called, met}
use Rattle.pir_ports.proofs.NextGuest.{next_is, meets_next}
use Rattle.pir_ports.proofs.memory.MemPortsPorts.next_guest.Goals as goal
use Rattle.pir_ports.proofs.memory.MemPortsPorts.next_guest.Goals.{then-is_due-via-then-is_due, then-is_due-via-else-is_due+then-self-len}

pub returns-then-is_due-clause-exactly : goal.returns-then-is_due-clause-exactly
returns-then-is_due-clause-exactly c = elim c.then-is_due.branch [
  | then-is_due-via-then-is_due w ↦
      (λ e. inl (rw (← c.self.view_is, ← c.deref.ensures.value, ← c.is_due.ensures.calls) (c.is_due.ensures.due.0 w.if-is_due.true)), λ e. refl)
  | then-is_due-via-else-is_due+then-self-len w ↦
      let m = c.self.inside in
      let all : length m.guests.items ≡ m.met = search rules in
      let none : drop m.met m.guests.items ≡ [] = drop_all m.met m.guests.items (omega (arith, all)) in
      (λ e. inr (sym (ap (λ (old : Memory). old.waiting) c.self.view_is) ∙ none), λ e. refl)
]

pub returns-clause-meets : goal.returns-clause-meets
returns-clause-meets c =
    let m = c.self.inside in
    let left : m.met < length m.guests.items = search rules in
    let kept : c.keep_links.new.self ≡ with_links m.cells = c.keep_links.ensures in
    let guest = get_or_read m.guests.items m.met c.index_mut.result.now left c.index_mut.ensures.value empty_cell in
    next_is m c.is_due.new.calls c.let_in.new.self c.let_in.new.next c.push.new.self.items c.self.invariant left c.is_due.ensures.calls
    (c.let_in.ensures.before ∙ ap (λ (l : CellList). get_or l.cells 6 empty_cell) kept)
    (c.let_in.ensures.present ∙ (λ i. with_cell 6 (came_in (guest i)) (kept i)))
    (c.in-Ok.ensures.items ∙ ap (λ (n : ℕ). m.since.items ++ n ∷ []) (c.faults.ensures ∙ ap (λ (x : MemoryCell). x.faults) c.at.ensures))
    ∙ ap (λ (old : Memory). met (called old)) c.self.view_is

pub returns-clause-ok : goal.returns-clause-ok
returns-clause-ok c =
    let m = c.self.inside in
    let old = c.args.self.now in
    let left : m.met < length m.guests.items = search rules in
    let some : 0 < length old.waiting = subst (λ (v : Memory). 0 < length v.waiting) c.self.view_is (let e : 0 < length (drop m.met m.guests.items) = omega (arith, left, length-drop m.met m.guests.items) in e) in
    let ports : 6 < length old.cells = subst (λ (v : Memory). 6 < length v.cells) c.self.view_is (let e : 6 < length m.cells.cells = omega (arith, c.self.invariant.ports) in e) in
    subst (λ (v : Memory). Meets (world_of old) (world_of v)) (sym (returns-clause-meets c)) (meets_next old some ports)
