-- The vectors that a matrix sends to zero.
use Rattle.std.specs.Prelude.{◌≡◌, ◌≢◌, ℕ, ◌<◌, List, length, slice_index}
use Rattle.gf256.specs.Field.{◌⊗◌}
use Rattle.gf256.specs.Sums.{sum_to}
use Rattle.linear_solve.specs.Matrix.{Matrix, entry}

-- component k of a vector; 0 past its end
unfoldable pub component : List ℕ → ℕ → ℕ
component v k = slice_index v k

-- the inner product of f 0, .., f (n - 1) with the first n components of v
unfoldable pub inner : (ℕ → ℕ) → List ℕ → ℕ → ℕ
inner f v n = sum_to (λ k. f k ⊗ component v k) n

-- v has a component for each column, they are bytes and not all 0, and the inner product of each row with v is 0
pub record IsKernelVector (v : List ℕ) (m : Matrix) : Type 0 where
  pub size : length v ≡ m.cols
  pub bytes : (k : ℕ) → component v k < 256
  pub nonzero : (k : ℕ) × (k < m.cols) × (component v k ≢ 0)
  pub sent_to_zero : (i : ℕ) → i < m.rows → inner (entry m i) v m.cols ≡ 0
