-- Rows of coins in lanes: how they are laid out, and what is made of them.
use Rattle.std.specs.Prelude.{ℕ, ◌≡◌, ◌⊎◌, ◌+◌, ◌-◌, ◌*◌, ◌/◌, ◌%◌, ◌<◌, ◌≤◌, List, ◌++◌, drop, leb, length, ltb, min, slice_index, if◌then◌else◌}
use Rattle.gf256.specs.Field.{◌⊕◌, ◌⊗◌, power}
use Rattle.gf256.specs.Polynomial.{val}
use Rattle.gf256.specs.Rows.{AreLanes}
use Rattle.gf256.specs.Sums.{sum_to}
use Rattle.shamir_share.specs.Query.{row_coins}
use Rattle.shamir_share.specs.declared.cells.Cells.{Cells}

-- how many lanes a row may fill
abbrev pub IsWidth : ℕ → Type 0
IsWidth width = (width ≡ 2) ⊎ ((width ≡ 4) ⊎ ((width ≡ 8) ⊎ (width ≡ 16)))

-- the place of lane k in rows of n coins, of which each fills so many lanes; past the last coin 128
abbrev pub place : ℕ → ℕ → ℕ → ℕ
place width n k = if ltb (k % width) n then k / width * n + k % width else 128

-- the numbers of 16 lanes, the even ones before the odd ones
abbrev pub even_first : ℕ → ℕ
even_first i = i % 8 * 2 + i / 8

-- the places of 16 lanes in this order
abbrev pub sorted_place : ℕ → ℕ → ℕ → ℕ
sorted_place width n i = place width n (even_first i)

-- lane j of rows of t coins from coin `from` on, of which each fills so many lanes; past the last
-- coin of a row 0
abbrev pub padded : List ℕ → ℕ → ℕ → ℕ → ℕ → ℕ
padded rows t from width j = slice_index (row_coins rows t (j / width)) (from + j % width)

-- what is taken from a place, counted from `at` on; where the place is 128 or more, 0
abbrev pub taken : List ℕ → ℕ → ℕ → ℕ
taken bytes at p = if leb 128 p then 0 else slice_index bytes (at + p)

-- 16 places, each of which is below 16 or 128
abbrev pub MayTake : List ℕ → Type 0
MayTake places = (k : ℕ) → k < 16 → (slice_index places k < 16) ⊎ (slice_index places k ≡ 128)

-- n lanes are one sixteen or more
abbrev pub AreSixteens : ℕ → Type 0
AreSixteens n = (16 ≤ n) × (n % 16 ≡ 0)

-- n rows of t coins are read from coin `from` on, as many as fill the width; narrow rows are read
-- whole
pub record AreCells (n : ℕ) (rows : List ℕ) (t from width apart : ℕ) (places : List ℕ) : Type 0 where
  pub lanes : AreSixteens n
  pub fills : IsWidth width
  pub shape : (width ≡ 16) ⊎ ((from ≡ 0) × (t ≤ width))
  pub inside : from < t
  pub steps : apart ≡ 16 / width * t
  pub sorted : AreLanes 16 places (sorted_place width (min (t - from) width)) 0
  pub whole : n * t ≤ length rows
  pub room : (n / 16 - 1) * (16 * t) + ((width - 1) * apart + from) + 16 ≤ length rows

-- the same, as the cells say
abbrev pub AreCellsOf : ℕ → List ℕ → Cells → Type 0
AreCellsOf n rows cells = AreCells n rows cells.t cells.from cells.width cells.apart cells.places

-- lane j of rows that are read as the cells say
abbrev pub padded_by : List ℕ → Cells → ℕ → ℕ
padded_by rows cells = padded rows cells.t cells.from cells.width

-- the value at a of the polynomial whose coefficients are the n numbers from `n * k` on
unfoldable pub part : (ℕ → ℕ) → ℕ → ℕ → ℕ → ℕ
part g n a k = sum_to (λ e. g (n * k + e) ⊗ power a e) n

-- the value at a of the polynomial whose coefficients are the coins of row k from coin `from` on
abbrev pub value_from : List ℕ → ℕ → ℕ → ℕ → ℕ → ℕ
value_from rows t from a k = val (drop from (row_coins rows t k)) a

-- lane k, by sixteens, of which the first begins at `at`, and the next so many after it
abbrev pub spread : ℕ → ℕ → ℕ → ℕ
spread at gap k = k / 16 * gap + at + k % 16

-- the same, where in each sixteen the even ones stand before the odd ones
abbrev pub spread_even_first : ℕ → ℕ → ℕ → ℕ
spread_even_first at gap k = k / 16 * gap + at + even_first (k % 16)

-- lane k of what is taken, by sixteens, of which the first begins at `at`, and the next so many after
-- it, at these places of each
abbrev pub taken_lane : List ℕ → ℕ → ℕ → List ℕ → ℕ → ℕ
taken_lane bytes at apart places k = taken bytes (k / 16 * apart + at) (slice_index places (k % 16))

-- lane k of the lanes with number u of each sixteen rows, the even ones before the odd ones
abbrev pub unit_lane : List ℕ → Cells → ℕ → ℕ → ℕ
unit_lane rows cells u k = padded_by rows cells (spread_even_first (16 * u) (16 * cells.width) k)

-- lane k of the values at a of n lanes each, of each sixteen rows from that of lane `16 * u` on
abbrev pub value_lane : List ℕ → Cells → ℕ → ℕ → ℕ → ℕ → ℕ
value_lane rows cells n a u k =
    part (padded_by rows cells) n a (spread (16 / n * u) (16 / n * cells.width) k)

-- where lane k comes from, in two lists of n, when the first eights of each sixteen of both are
-- put behind each other
abbrev pub eights : ℕ → ℕ → ℕ
eights n k = k / 16 * 16 + k % 16 / 8 * n + k % 8

-- and when each second number of each sixteen of both is
abbrev pub pairs : ℕ → ℕ → ℕ
pairs n k = k / 16 * 16 + k % 16 / 8 * n + 2 * (k % 8)

-- the first eights of both lists, and f times the last eights of both
abbrev pub joined : ℕ → List ℕ → List ℕ → ℕ → ℕ → ℕ
joined n a b f k = slice_index (a ++ b) (eights n k) ⊕ f ⊗ slice_index (a ++ b) (eights n k + 8)

-- each second number of both lists, and f times the one behind it
abbrev pub paired : ℕ → List ℕ → List ℕ → ℕ → ℕ → ℕ
paired n a b f k = slice_index (a ++ b) (pairs n k) ⊕ f ⊗ slice_index (a ++ b) (pairs n k + 1)
