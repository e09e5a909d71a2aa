-- What is promised of `serve` where no call failed but on guests.
use Rattle.std.proofs.Common.{◌≡◌, ◌⊎◌, inl, inr, ℕ, ◌<◌, ◌≤◌, List, [], length, refl, ap, arith}
use Rattle.std.specs.Prelude.{Some}
use Rattle.port_trait.specs.World.{World}
use Rattle.port_trait.specs.Number.{DATABASE}
use Rattle.port_trait.proofs.Rises.{once_rose}
use Rattle.block_matrix.specs.Database.{limit}
use Rattle.port_trait.proofs.Cells.{at_told}
use Rattle.commands.specs.Told.{NoneRose}
use Rattle.commands.specs.ServeOrder.{ServeOrder}
use Rattle.commands.specs.ServeSteps.{Loaded}
use Rattle.commands.specs.ServeOutcome.{ServeEnds, ServedAll, ServePromise, files}
use Rattle.commands.specs.declared.status.Status.{Status}
use Rattle.commands.specs.declared.status.Status.TheVariants.{One, ReadFault, WriteFault, BadInput, DoorFault, Memory}
use Rattle.commands.specs.declared.status.Bad.TheVariants.{EmptyFile, TooBig}

-- Door's count rose
door_rose : (o : ServeOrder) (old new : World) → NoneRose files old new → ServeEnds o DoorFault old new → ⊥
door_rose o old new none (inl shut) = none.1.1.0 (once_rose _ _ shut.rose)
door_rose o old new none (inr dry) = none.1.1.0 (once_rose _ _ dry.rose)

module _ (o : ServeOrder) (old new : World) (none : NoneRose files old new) (bytes : List ℕ) (held : (old.at DATABASE).holds ≡ Some bytes) where
  -- a database is served
  served : (status : Status) → 0 < length bytes → length bytes ≤ limit o.width → ServeEnds o status old new → ((status ≡ One) × ServedAll o old new) ⊎ (status ≡ Memory)
  served One some few said = inl (refl, said)
  served ReadFault some few said = absurd (none.1.0 (once_rose _ _ said.0.rose))
  served WriteFault some few said = absurd (none.0 (once_rose _ _ said.written.rose))
  served (BadInput EmptyFile) some few said =
      let empty = at_told (λ (h : List ℕ). h ≡ []) (old.at DATABASE).holds bytes held said.0.none in
      absurd (omega (arith, ap length empty, some))
  served (BadInput (TooBig most)) some few said =
      let more = at_told (λ (h : List ℕ). limit o.width < length h) (old.at DATABASE).holds bytes held said.0.1.more in
      absurd (omega (arith, more, said.0.0, few))
  served DoorFault some few said = absurd (door_rose o old new none said)
  served Memory some few said = inr refl
  served status some few said = absurd said

  -- what was loaded is what Database held
  is_loaded : (width : ℕ) (name : List ℕ) (database : _) → Loaded name width database old new → (0 < length bytes) × (length bytes ≤ limit width)
  is_loaded width name database l =
      let same = at_told (λ (h : List ℕ). l.read ≡ h) (old.at DATABASE).holds bytes held l.all in
      let some = l.file.some in
      let few = l.file.few in
      (omega (arith, ap length same, some), omega (arith, ap length same, few))

  -- an empty file is refused
  empty_file : (status : Status) → length bytes ≡ 0 → ServeEnds o status old new → (status ≡ BadInput EmptyFile) ⊎ (status ≡ Memory)
  empty_file One size said = let l = is_loaded o.width o.database said.database said.loaded in absurd (omega (arith, l.0, size))
  empty_file ReadFault size said = absurd (none.1.0 (once_rose _ _ said.0.rose))
  empty_file WriteFault size said = absurd (none.0 (once_rose _ _ said.written.rose))
  empty_file (BadInput EmptyFile) size said = inl refl
  empty_file (BadInput (TooBig most)) size said =
      let more = at_told (λ (h : List ℕ). limit o.width < length h) (old.at DATABASE).holds bytes held said.0.1.more in
      absurd (omega (arith, more, size))
  empty_file DoorFault size said = absurd (door_rose o old new none said)
  empty_file Memory size said = inr refl
  empty_file status size said = absurd said

  -- and so is one that is too big
  too_big : (status : Status) → limit o.width < length bytes → ServeEnds o status old new → (status ≡ BadInput (TooBig (limit o.width))) ⊎ (status ≡ Memory)
  too_big One more said = let l = is_loaded o.width o.database said.database said.loaded in absurd (omega (arith, l.1, more))
  too_big ReadFault more said = absurd (none.1.0 (once_rose _ _ said.0.rose))
  too_big WriteFault more said = absurd (none.0 (once_rose _ _ said.written.rose))
  too_big (BadInput EmptyFile) more said =
      let empty = at_told (λ (h : List ℕ). h ≡ []) (old.at DATABASE).holds bytes held said.0.none in
      absurd (omega (arith, ap length empty, more))
  too_big (BadInput (TooBig most)) more said = inl (ap (λ (n : ℕ). BadInput (TooBig n)) said.0.0)
  too_big DoorFault more said = absurd (door_rose o old new none said)
  too_big Memory more said = inr refl
  too_big status more said = absurd said

-- what is promised of `serve`
pub serve_promised : (o : ServeOrder) (status : Status) (old new : World) → ServeEnds o status old new → ServePromise o status old new
serve_promised o status old new said = record {
  served = λ bytes held some few none. served o old new none bytes held status some few said;
  empty_file = λ held none. empty_file o old new none [] held status refl said;
  too_big = λ bytes held more none. too_big o old new none bytes held status more said;
}
