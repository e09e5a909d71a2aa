use Rattle.std.proofs.Common.{◌≡◌, ◌+◌, ◌-◌, ◌≤◌, ◌<◌, ℕ, length, get_or}
use Rattle.column_runs.specs.Lagrange.{extended}
use Rattle.column_runs.specs.Rows.{lists_of, rows_of}
use Rattle.column_runs.specs.Tile.{cell, AreAsLong, Follow}
use Rattle.column_runs.proofs.run.decode_tiles.Given as goal

-- the columns that are done
abbrev pub invariant-tiles : goal.invariant-tiles
invariant-tiles l = record {
  within : l.done ≤ length l.initial.out;
  follow : (c : ℕ) → c < l.done
      → Follow (rows_of l.rows) (length l.factors.zero.items) (lists_of l.factors.others.items) (l.from + c);
  constants : (c : ℕ) → c < l.done → get_or l.out c 0 ≡ extended l.factors.zero.items (cell (rows_of l.rows) (l.from + c));
  sizes : AreAsLong l.differences l.initial.differences;
}

abbrev pub decreases-tiles : goal.decreases-tiles
decreases-tiles l = length l.initial.out - l.done
