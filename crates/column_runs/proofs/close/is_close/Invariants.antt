use Rattle.std.proofs.Common.{◌≡◌, ◌<◌, take}
use Rattle.column_runs.specs.Close.{misses}
use Rattle.column_runs.proofs.close.is_close.Given as goal

-- so many of the points so far are off it, and one more may be
abbrev pub invariant-loop-x : goal.invariant-loop-x
invariant-loop-x l = record {
  misses : l.misses ≡ misses l.phi (take l.x-index l.points);
  few : l.misses < l.most;
}
