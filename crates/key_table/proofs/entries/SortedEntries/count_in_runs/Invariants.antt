use Rattle.std.proofs.Common.{◌+◌, ◌-◌, ◌^◌, ◌<◌, ◌≤◌, ℕ}
use Rattle.key_table.specs.Counting.{IsRun, run_at}
use Rattle.key_table.proofs.entries.SortedEntries.count_in_runs.Given as goal

-- the entry was counted for the powers from 21 - i on, and not yet for those below
abbrev pub invariant-loop-i : goal.invariant-loop-i
invariant-loop-i l = ((k : ℕ) → k < 21 - l.i → IsRun (2 ^ k) l.self.pairs l.entry (run_at l.runs k))
    × ((k : ℕ) → k < 21 → 21 - l.i ≤ k → IsRun (2 ^ k) l.self.pairs (l.entry + 1) (run_at l.runs k))
