-- The values of a polynomial at all bytes, and the powers of bytes that they are made from.
use Rattle.std.specs.Prelude.{◌≡◌, ◌≢◌, ℕ, ◌*◌, ◌<◌, ◌≤◌, List, length, slice_index}
use Rattle.gf256.specs.Field.{◌⊗◌, power}
use Rattle.gf256.specs.Polynomial.{val}
use Rattle.bi_poly.specs.Rows.{row}

-- row e has at place g the power of the byte g with exponent e
pub record ArePowers (rows : List (List ℕ)) : Type 0 where
  pub size : (e : ℕ) → e < length rows → length (row rows e) ≡ 256
  pub each : (e g : ℕ) → e < length rows → g < 256 → slice_index (row rows e) g ≡ power g e

-- the bytes in the first so many blocks of 16 became their products with their places, and the others stayed
pub record AreTimesPlaces (before now : List ℕ) (blocks : ℕ) : Type 0 where
  pub size : length now ≡ length before
  pub done : (k : ℕ) → k < blocks * 16 → slice_index now k ≡ k ⊗ slice_index before k
  pub rest : (k : ℕ) → blocks * 16 ≤ k → slice_index now k ≡ slice_index before k

-- at place g is the value of p at the byte g
pub record AreValues (values p : List ℕ) : Type 0 where
  pub size : length values ≡ 256
  pub each : (g : ℕ) → g < 256 → slice_index values g ≡ val p g

-- none of the values at these places is 0
abbrev pub HaveNoZero : List ℕ → ℕ → ℕ → Type 0
HaveNoZero values from to = (k : ℕ) → from ≤ k → k < to → slice_index values k ≢ 0

-- p is the first of the places up to 256, from a place on, where the value is 0
pub record IsFirstZero (values : List ℕ) (from p : ℕ) : Type 0 where
  pub later : from ≤ p
  pub inside : p < 256
  pub zero : slice_index values p ≡ 0
  pub others : HaveNoZero values from p
