use Rattle.std.proofs.Common.{◌≡◌, ◌+◌, ℕ, ◌<◌, get_or}
use Rattle.column_runs.proofs.agreement.agreed_lanes.Given as goal

-- the lanes so far are the row's bytes
abbrev pub invariant-loop-i : goal.invariant-loop-i
invariant-loop-i l = (k : ℕ) → k < l.i → get_or l.row (l.at + k) 0 ≡ get_or l.sums k 0
