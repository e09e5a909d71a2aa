use Rattle.std.proofs.Common.{◌+◌}
use Rattle.gf256.specs.Rows.{AreLanes}
use Rattle.column_runs.specs.Tile.{given_by}
use Rattle.column_runs.proofs.sums.block_at.Given as goal

-- the products with the factors so far are added
abbrev pub invariant-loop-i : goal.invariant-loop-i
invariant-loop-i l = record {
  a : AreLanes 32 l.a (given_by l.first l.differences l.factors l.i) l.at;
  b : AreLanes 32 l.b (given_by l.first l.differences l.factors l.i) (l.at + 32);
  c : AreLanes 32 l.c (given_by l.first l.differences l.factors l.i) (l.at + 64);
  d : AreLanes 32 l.d (given_by l.first l.differences l.factors l.i) (l.at + 96);
}
