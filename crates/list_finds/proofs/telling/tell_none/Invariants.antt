use Rattle.list_finds.specs.Told.{TellsNone}
use Rattle.list_finds.proofs.telling.tell_none.Given as goal

abbrev pub invariant-loop-key : goal.invariant-loop-key
invariant-loop-key l = TellsNone l._key-index l.initial.answers l.answers
