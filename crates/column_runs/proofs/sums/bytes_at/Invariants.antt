use Rattle.gf256.specs.Rows.{AreLanes}
use Rattle.column_runs.specs.Tile.{given_by}
use Rattle.column_runs.proofs.sums.bytes_at.Given as goal

-- the products with the factors so far are added
abbrev pub invariant-loop-i : goal.invariant-loop-i
invariant-loop-i g l = AreLanes g.row.N l.sums (given_by l.first l.differences l.factors l.i) l.at
