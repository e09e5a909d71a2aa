use Rattle.std.proofs.Common.{◌≡◌, length}
use Rattle.key_table.specs.Counting.{AreRuns}
use Rattle.key_table.proofs.entries.SortedEntries.runs.Given as goal

-- the entries before this one were counted
abbrev pub invariant-loop-entry : goal.invariant-loop-entry
invariant-loop-entry l = (length l.runs ≡ 21) × AreRuns l.self.pairs l.entry l.runs
