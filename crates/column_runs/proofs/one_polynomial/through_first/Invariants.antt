use Rattle.std.proofs.Common.{◌≡◌, ◌+◌, map, take}
use Rattle.column_runs.proofs.one_polynomial.through_first.Given as goal

abbrev pub invariant-loop-x : goal.invariant-loop-x
invariant-loop-x l = record {
  xs : l.xs.items ≡ map (λ p. p.0) (take l.x-index (take (l.t + 1) l.points));
  ys : l.ys.items ≡ map (λ p. p.1) (take l.x-index (take (l.t + 1) l.points));
}
