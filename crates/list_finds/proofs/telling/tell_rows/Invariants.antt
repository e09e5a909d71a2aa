use Rattle.std.proofs.Common.{map, take}
use Rattle.std.specs.Prelude.{Some}
use Rattle.list_finds.specs.Told.{Tells}
use Rattle.list_finds.proofs.telling.tell_rows.Given as goal

abbrev pub invariant-loop-place : goal.invariant-loop-place
invariant-loop-place l =
    Tells l.list l.rows l.width (Some l.block) (take l.place (map (λ k. k.now) l.keys)) l.initial.answers l.answers
