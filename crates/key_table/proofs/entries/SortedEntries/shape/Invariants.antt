use Rattle.key_table.specs.Shapes.{BestOf}
use Rattle.key_table.proofs.entries.SortedEntries.shape.Given as goal

-- the best of the powers before this one is known
abbrev pub invariant-loop-power : goal.invariant-loop-power
invariant-loop-power l = BestOf l.self l.power l.best
