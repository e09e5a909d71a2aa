-- Rows in echelon form, each with a column of its own.
use Rattle.std.specs.Prelude.{◌≡◌, ◌≢◌, ℕ, ◌+◌, ◌<◌, ◌≤◌, List, [], length, map, slice_index, slice_index_or}
use Rattle.gf256.specs.Field.{◌⊕◌, ◌⊗◌}
use Rattle.linear_solve.specs.Kernel.{component, inner}
use Rattle.linear_solve.specs.declared.echelon.PivotRow.{PivotRow}

-- the columns of the pivots
unfoldable pub columns_of : List PivotRow → List ℕ
columns_of pivots = map (λ p. p.column) pivots

-- the rows of the pivots
unfoldable pub rows_of : List PivotRow → List (List ℕ)
rows_of pivots = map (λ p. p.row.items) pivots

-- row t of some rows
unfoldable pub row_at : List (List ℕ) → ℕ → List ℕ
row_at rows t = slice_index_or rows t []

-- `new` is `old` plus factor times `other`
abbrev pub IsMultipleAdded : List ℕ → List ℕ → List ℕ → ℕ → Type 0
IsMultipleAdded new old other factor = (k : ℕ) → component new k ≡ component old k ⊕ factor ⊗ component other k

-- each row, of n entries, has 1 in its column, and 0 in the columns of the rows before it
pub record IsEchelon (columns : List ℕ) (rows : List (List ℕ)) (n : ℕ) : Type 0 where
  pub same : length columns ≡ length rows
  pub wide : (t : ℕ) → t < length rows → length (row_at rows t) ≡ n
  pub inside : (t : ℕ) → t < length rows → slice_index columns t < n
  pub one : (t : ℕ) → t < length rows → component (row_at rows t) (slice_index columns t) ≡ 1
  pub none : (s t : ℕ) → s < t → t < length rows → component (row_at rows t) (slice_index columns s) ≡ 0

-- the rows, of n entries, send v to zero: the inner product of each with v is 0
abbrev pub SendToZero : List (List ℕ) → ℕ → List ℕ → Type 0
SendToZero rows n v = (t : ℕ) → t < length rows → inner (component (row_at rows t)) v n ≡ 0

-- a row with the pivots' columns cleared has the same inner product as before with each vector that the pivots' rows send to zero
abbrev pub KeepsInner : List PivotRow → List ℕ → List ℕ → Type 0
KeepsInner pivots new old = (v : List ℕ) → SendToZero (rows_of pivots) (length old) v
    → inner (component new) v (length old) ≡ inner (component old) v (length old)

-- v is 0 in the columns of the pivots
abbrev pub IsClear : List PivotRow → List ℕ → Type 0
IsClear pivots v = (t : ℕ) → t < length pivots → component v (slice_index (columns_of pivots) t) ≡ 0

-- each vector that the pivots' rows send to zero is sent there by the row
abbrev pub IsImplied : List PivotRow → List ℕ → Type 0
IsImplied pivots row = (v : List ℕ) → SendToZero (rows_of pivots) (length row) v → inner (component row) v (length row) ≡ 0

-- `new` has 1 in column c and 0 in the columns of the rows, and a vector that the rows and `new` send to zero is sent there by `old`
pub record IsReduced (new old columns : List ℕ) (rows : List (List ℕ)) (c : ℕ) : Type 0 where
  pub long : length new ≡ length old
  pub inside : c < length old
  pub one : component new c ≡ 1
  pub none : (t : ℕ) → t < length rows → component new (slice_index columns t) ≡ 0
  pub stands : (v : List ℕ) → SendToZero rows (length old) v → inner (component new) v (length old) ≡ 0
      → inner (component old) v (length old) ≡ 0

-- such a row, reduced by the pivots
abbrev pub IsReducedBy : List PivotRow → List ℕ → List ℕ → ℕ → Type 0
IsReducedBy pivots new old c = IsReduced new old (columns_of pivots) (rows_of pivots) c

-- the rows after one more row was taken in: a vector that they send to zero is sent there by the rows before and by that row
pub record IsTaken (columns : List ℕ) (rows before : List (List ℕ)) (row : List ℕ) : Type 0 where
  pub echelon : IsEchelon columns rows (length row)
  pub grows : length rows ≤ length before + 1
  pub sends_to_zero : (v : List ℕ) → SendToZero rows (length row) v
      → SendToZero before (length row) v × (inner (component row) v (length row) ≡ 0)

-- the pivots after one more row was taken in
abbrev pub TakesIn : List PivotRow → List PivotRow → List ℕ → Type 0
TakesIn pivots before row = IsTaken (columns_of pivots) (rows_of pivots) (rows_of before) row

-- k is in range, and none of the columns
pub record IsFree (columns : List ℕ) (width k : ℕ) : Type 0 where
  pub inside : k < width
  pub apart : (t : ℕ) → t < length columns → slice_index columns t ≢ k

-- what stands in no pivot's column stays
abbrev pub KeepsFree : List PivotRow → List ℕ → List ℕ → Type 0
KeepsFree pivots new old = (k : ℕ) → IsFree (columns_of pivots) (length old) k → component new k ≡ component old k
