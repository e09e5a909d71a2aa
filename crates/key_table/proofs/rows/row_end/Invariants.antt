use Rattle.std.proofs.Common.{ℕ, ◌<◌, ◌+◌}
use Rattle.key_table.specs.Counting.{row_at}
use Rattle.key_table.proofs.rows.row_end.Given as goal

-- no entry before this one has a later row
abbrev pub invariant-loop-entry : goal.invariant-loop-entry
invariant-loop-entry l = (k : ℕ) → k < l.entry → row_at l.rows l.entries.pairs k < l.j + 1
