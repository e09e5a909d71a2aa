-- Matrices of bytes.
use Rattle.std.specs.Prelude.{◌≡◌, ◌≢◌, ◌⊎◌, ℕ, ◌+◌, ◌*◌, ◌<◌, List, slice_index}

-- a matrix: how many rows and columns it has, and its entries, row after row
pub record Matrix : Type 0 where
  pub rows : ℕ
  pub cols : ℕ
  pub cells : List ℕ

-- entry j of row i, both counted from 0
unfoldable pub entry : Matrix → ℕ → ℕ → ℕ
entry m i j = slice_index m.cells (i * m.cols + j)

-- m has so many rows and columns, and its entries are all 0
pub record IsZeroMatrix (m : Matrix) (rows cols : ℕ) : Type 0 where
  pub height : m.rows ≡ rows
  pub width : m.cols ≡ cols
  pub zero : (i j : ℕ) → entry m i j ≡ 0

-- `new` is `old` with v in the place of entry j of row i
pub record IsWithEntry (new old : Matrix) (i j v : ℕ) : Type 0 where
  pub height : new.rows ≡ old.rows
  pub width : new.cols ≡ old.cols
  pub here : entry new i j ≡ v
  pub elsewhere : (a b : ℕ) → b < old.cols → (a ≢ i) ⊎ (b ≢ j) → entry new a b ≡ entry old a b
