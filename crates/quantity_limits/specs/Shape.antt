-- The shape of a database.
use Rattle.std.specs.Prelude.{ℕ, ◌*◌, ◌≤◌}
use Rattle.quantity_limits.specs.declared.TheConstants.{MOST_ROWS, MOST_WIDTH, MOST_CELLS}

-- so many rows of so many bytes
pub record IsShape (r s : ℕ) : Type 0 where
  pub some_rows : 1 ≤ r
  pub few_rows : r ≤ MOST_ROWS
  pub some_bytes : 1 ≤ s
  pub few_bytes : s ≤ MOST_WIDTH
  pub few_cells : r * s ≤ MOST_CELLS
