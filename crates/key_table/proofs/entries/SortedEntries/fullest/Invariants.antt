use Rattle.key_table.specs.Counting.{AreCounted}
use Rattle.key_table.proofs.entries.SortedEntries.fullest.Given as goal

-- the entries before this one were counted
abbrev pub invariant-loop-entry : goal.invariant-loop-entry
invariant-loop-entry l = AreCounted l.rows l.self.pairs l.entry l.counted
