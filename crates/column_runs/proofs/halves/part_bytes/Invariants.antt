use Rattle.column_runs.specs.Halves.{difference, AreParts}
use Rattle.column_runs.proofs.halves.part_bytes.Given as goal

-- the bytes so far
abbrev pub invariant-loop-c : goal.invariant-loop-c
invariant-loop-c l = AreParts l.low l.high (difference l.row l.first) l.c
