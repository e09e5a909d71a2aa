use Rattle.std.proofs.Common.{◌≡◌, take}
use Rattle.column_runs.proofs.lagrange.products_of.Given as goal

-- those of the factors so far
abbrev pub invariant-loop-factor : goal.invariant-loop-factor
invariant-loop-factor l = l.made.items ≡ take l.factor-index l.factors
