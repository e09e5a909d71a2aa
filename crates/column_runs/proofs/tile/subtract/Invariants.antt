use Rattle.std.proofs.Common.{◌≡◌, ◌<◌, ◌+◌, ℕ, [], length, map, get_or}
use Rattle.gf256.specs.Field.{◌⊕◌}
use Rattle.column_runs.specs.Tile.{cell}
use Rattle.column_runs.proofs.tile.subtract.Given as goal

-- the rows of differences so far
abbrev pub invariant-loop-i : goal.invariant-loop-i
invariant-loop-i l = record {
  sizes : (j : ℕ) → length (get_or l.differences j []) ≡ length (get_or l.initial.differences j []);
  each : (j c : ℕ) → j < l.i → c < length l.first
      → cell l.differences c j ≡ cell (map (λ row. row.now) l.rows) (l.from + c) (j + 1) ⊕ get_or l.first c 0;
}
