-- Runs of columns whose points lie on one polynomial each.
use Rattle.std.specs.Prelude.{◌≡◌, ℕ, ◌+◌, ◌<◌, ◌≤◌, List, length, map, slice_index, All}
use Rattle.std.specs.List.{zip}
use Rattle.gf256.specs.Polynomial.{coef, val, IsPolynomial}
use Rattle.column_runs.specs.OnOne.{LieOnOne}

-- the points of a column: each of the xs with the byte of its row there
abbrev pub points_at : List ℕ → List (List ℕ) → ℕ → List (ℕ × ℕ)
points_at xs rows column = zip xs (map (λ row. slice_index row column) rows)

-- the byte is the constant of a polynomial of degree at most t on which all points lie
pub record IsConstant (points : List (ℕ × ℕ)) (t byte : ℕ) : Type 0 where
  pub polynomial : List ℕ
  pub degree : IsPolynomial t polynomial
  pub through : All (λ p. val polynomial p.0 ≡ p.1) points
  pub constant : coef polynomial 0 ≡ byte

-- in n columns from `from` on the points lie on one polynomial of degree at most t each, and its constant is the byte; where
-- there are more bytes, they lie on none in the column after these
pub record IsRun (xs : List ℕ) (rows : List (List ℕ)) (t from : ℕ) (bytes : List ℕ) (n : ℕ) : Type 0 where
  pub within : n ≤ length bytes
  pub constants : (c : ℕ) → c < n → IsConstant (points_at xs rows (from + c)) t (slice_index bytes c)
  pub longest : n < length bytes → ¬ LieOnOne (points_at xs rows (from + n)) t
