-- What a list decoding asks of points.
use Rattle.std.specs.Prelude.{◌≢◌, ℕ, ◌*◌, ◌<◌, ◌≤◌, List, length, All, AllPairs}
use Rattle.column_lists.specs.declared.TheConstants.{MOST_POINTS, MOST_COST}
use Rattle.column_lists.specs.Numbers.{cost}

-- the polynomials of degree at most t that agree with at least h of the points can be listed
pub record CanList (points : List (ℕ × ℕ)) (t h : ℕ) : Type 0 where
  pub degree : 1 ≤ t
  pub redundant : t < h
  pub agreement : h ≤ length points
  pub few : length points ≤ MOST_POINTS
  pub strong : length points * t < h * h
  pub cheap : cost (length points) t h ≤ MOST_COST
  pub distinct : AllPairs (λ p q. p.0 ≢ q.0) points
  pub nonzero : All (λ p. p.0 ≢ 0) points
