use Rattle.std.proofs.Common.{◌≤◌, length}
use Rattle.key_table.specs.Numbered.{HasNumber, bare}
use Rattle.key_table.specs.Scan.{Scanned}
use Rattle.key_table.proofs.clash.clash_among.Given as goal

-- the places before i were looked at
abbrev pub invariant-loop-i : goal.invariant-loop-i
invariant-loop-i l = (1 ≤ l.i) × (l.i ≤ length l.places) × HasNumber l.pairs.pairs l.scan.first
    × Scanned l.pairs.pairs (bare l.places) l.i l.scan.first.place l.scan.least l.scan.least_first
