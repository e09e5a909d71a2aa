use Rattle.std.proofs.Common.{◌++◌, take}
use Rattle.std.specs.List.{flat_map}
use Rattle.sha2.specs.Hashers.{Holds256}
use Rattle.key_table.specs.Entry.{entry}
use Rattle.key_table.proofs.entries.SortedEntries.tag.Given as goal

-- the entries before this one were hashed
abbrev pub invariant-loop-entry : goal.invariant-loop-entry
invariant-loop-entry l = Holds256 l.hasher (l.salt ++ flat_map (entry l.self.most) (take l.entry l.self.pairs))
