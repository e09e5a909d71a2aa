use Rattle.std.proofs.Common.{◌≡◌}
use Rattle.column_runs.specs.Tile.{given_by}
use Rattle.column_runs.proofs.sums.byte_at.Given as goal

-- the products with the factors so far are added
abbrev pub invariant-loop-i : goal.invariant-loop-i
invariant-loop-i l = l.sum ≡ given_by l.first l.differences l.factors l.i l.c
