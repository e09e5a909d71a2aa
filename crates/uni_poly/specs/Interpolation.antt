-- Interpolation.
use Rattle.std.specs.Prelude.{◌≡◌, ℕ, ◌<◌, List, length, slice_index, All}
use Rattle.gf256.specs.Polynomial.{val}

-- p has as many coefficients as there are points, all of them bytes, and the value ys[i] at each
-- xs[i]
pub record Interpolates (xs ys p : List ℕ) : Type 0 where
  pub size : length p ≡ length xs
  pub bytes : All (λ c. c < 256) p
  pub through : (i : ℕ) → i < length xs → val p (slice_index xs i) ≡ slice_index ys i
