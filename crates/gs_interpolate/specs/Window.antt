-- The Hasse derivatives (Hasse 1936) of polynomials side by side at one point.
use Rattle.std.specs.Prelude.{◌≡◌, ℕ, ◌+◌, ◌-◌, ◌*◌, ◌<◌, ◌≤◌, List, length, slice_index, take, drop}
use Rattle.bi_poly.specs.Hasse.{hasse}
use Rattle.gs_interpolate.specs.Family.{member, IsRowStep}
use Rattle.gs_interpolate.specs.declared.condition.Condition.{Condition}

-- the derivatives at (a, b) of the polynomials in so many lanes: m rows, each of m cells, each of them a lane wide
pub record Derivatives : Type 0 where
  pub lanes : ℕ
  pub m : ℕ
  pub a : ℕ
  pub b : ℕ
  pub cells : List ℕ

-- the cells of a window with m rows, of m cells each: row v
abbrev pub window_row : ℕ → ℕ → List ℕ → ℕ → List ℕ
window_row n m cells v = take (m * n) (drop (v * (m * n)) cells)

-- the derivative of order (u, v) of the polynomial at place g
abbrev pub derivative : Derivatives → ℕ → ℕ → ℕ → ℕ
derivative w u v g = slice_index (window_row w.lanes w.m w.cells v) (u * w.lanes + g)

-- that the derivative of order (u, v) at the point is 0
abbrev pub condition_at : Derivatives → ℕ → ℕ → Condition
condition_at w u v = record { u = u; v = v; a = w.a; b = w.b }

-- w with other cells
abbrev pub with_cells : Derivatives → List ℕ → Derivatives
with_cells w cells = record w { cells = cells }

-- w has so many lanes, and orders below m
abbrev pub IsForLanes : ℕ → ℕ → Derivatives → Type 0
IsForLanes n m w = (w.lanes ≡ n) × (w.m ≡ m)

-- w has the derivatives at (a, b) of the polynomials in these rows: cell u of row v has that of order (u, v), where u + v < m
pub record IsWindow (n m a b : ℕ) (rows : List (List ℕ)) (w : Derivatives) : Type 0 where
  pub lanes : w.lanes ≡ n
  pub order : w.m ≡ m
  pub first : w.a ≡ a
  pub second : w.b ≡ b
  pub each : (u v g : ℕ) → u + v < m → g < length rows → derivative w u v g ≡ hasse (member n rows g) u v a b

-- a step in the rows of a window from v on; those before stay
pub record IsWindowStep (factors : List ℕ) (p m : ℕ) (now before : List ℕ) (v : ℕ) : Type 0 where
  pub size : length now ≡ length before
  pub each : (w : ℕ) → v ≤ w → w < m
      → IsRowStep factors p (window_row (length factors) m now w) (window_row (length factors) m before w) (m - w)
  pub others : (w : ℕ) → w < v → w < m → window_row (length factors) m now w ≡ window_row (length factors) m before w
