-- Polynomials side by side, n of them in a list of rows: place i * n + g of row j has the coefficient at x ^ i * y ^ j of the
-- polynomial at place g.
use Rattle.std.specs.Prelude.{◌≡◌, ◌≢◌, ◌⊎◌, ℕ, zero, suc, ◌+◌, ◌-◌, ◌*◌, ◌%◌, ◌<◌, ◌≤◌, List, length, map, slice_index, Vec}
use Rattle.std.specs.declared.alloc.Global.{Global}
use Rattle.std.specs.List.{range_with_len}
use Rattle.std.specs.Simd.Lanes.{chunk}
use Rattle.gf256.specs.Field.{◌⊕◌, ◌⊗◌}
use Rattle.gf256.specs.declared.vectors.TheConstants.{LANES}
use Rattle.bi_poly.specs.Rows.{row}

-- the bytes of the rows
abbrev pub bytes_of : List (Vec ℕ Global) → List (List ℕ)
bytes_of rows = map (λ r. r.items) rows

-- the coefficients in one row of the polynomial at place g
unfoldable pub lane : ℕ → ℕ → List ℕ → List ℕ
lane n g r = map (λ i. slice_index r (i * n + g)) (range_with_len 0 (length r))

-- the polynomial at place g
abbrev pub member : ℕ → List (List ℕ) → ℕ → List (List ℕ)
member n rows g = map (lane n g) rows

-- the rows are as long as whole lanes are
abbrev pub AreWhole : ℕ → List (List ℕ) → Type 0
AreWhole n rows = (j : ℕ) → j < length rows → length (row rows j) % n ≡ 0

-- in one row, the coefficient before that at x ^ i of the polynomial at place g
unfoldable pub preceding : ℕ → ℕ → List ℕ → ℕ → ℕ
preceding n g r zero = 0
preceding n g r (suc i) = slice_index r (i * n + g)

-- x with the multiple of y by a factor
abbrev pub with_multiple : ℕ → ℕ → ℕ → ℕ
with_multiple x y factor = x ⊕ y ⊗ factor

-- to the coefficients at one power of x of all polynomials the multiples of own by their factors were added
abbrev pub AreMultiplesAdded : List ℕ → ℕ → List ℕ → List ℕ → Type 0
AreMultiplesAdded factors own now before =
    (g : ℕ) → slice_index now g ≡ with_multiple (slice_index before g) own (slice_index factors g)

-- these are the first of the bytes, in so many vectors
abbrev pub AreVectors : ℕ → List ℕ → List (List ℕ) → Type 0
AreVectors n bytes vectors = (v : ℕ) → v < n → row vectors v ≡ chunk (v * LANES) LANES bytes

-- so many bytes fill so many vectors, or those and 16 more
abbrev pub FillsVectors : ℕ → ℕ → Type 0
FillsVectors n bytes = (16 ≤ bytes) × ((bytes ≡ n * LANES) ⊎ (bytes ≡ n * LANES + 16))

-- what the polynomial at place p is multiplied by, at each power of x, where its own multiple by its factor is added to it
abbrev pub multiplier : List ℕ → ℕ → ℕ
multiplier factors p = slice_index factors p ⊕ 1

-- a step at one power of x: the multiples of the coefficient of the polynomial at place p were added, and then to that one what
-- it had at the power before
pub record IsCellStep (factors : List ℕ) (p carry : ℕ) (now before : List ℕ) : Type 0 where
  pub pivot : slice_index now p
      ≡ with_multiple (slice_index before p) (slice_index before p) (slice_index factors p) ⊕ carry
  pub others : (g : ℕ) → g ≢ p
      → slice_index now g ≡ with_multiple (slice_index before g) (slice_index before p) (slice_index factors g)

-- a step in one row, at the powers of x below x ^ count, with a factor for each lane: the polynomial at place p is multiplied
-- by x - a, where its own factor is a + 1, and to each other its multiple by that one's factor is added
pub record IsRowStep (factors : List ℕ) (p : ℕ) (now before : List ℕ) (count : ℕ) : Type 0 where
  pub pivot : (i : ℕ) → i < count → slice_index now (i * length factors + p)
      ≡ preceding (length factors) p before i ⊕ slice_index before (i * length factors + p) ⊗ multiplier factors p
  pub others : (i g : ℕ) → i < count → g < length factors → g ≢ p
      → slice_index now (i * length factors + g) ≡ with_multiple (slice_index before (i * length factors + g))
      (slice_index before (i * length factors + p)) (slice_index factors g)
  pub rest : (k : ℕ) → count * length factors ≤ k → slice_index now k ≡ slice_index before k

-- of the first powers of x, so many, the polynomial at place p has a coefficient at none past the first of them, so many, and
-- where there is a last of these, it has one there
pub record IsReach (n p : ℕ) (r : List ℕ) (count powers : ℕ) : Type 0 where
  pub few : powers ≤ count
  pub own : (i : ℕ) → powers ≤ i → i < count → slice_index r (i * n + p) ≡ 0
  pub least : (i : ℕ) → powers ≡ i + 1 → slice_index r (i * n + p) ≢ 0

-- whole lanes stay whole lanes
abbrev pub StaysWhole : ℕ → List ℕ → List ℕ → Type 0
StaysWhole n now before = length before % n ≡ 0 → length now % n ≡ 0

-- a step in each row, at x ^ i * y ^ j with i + t * j < reach
pub record IsFamilyStep (factors : List ℕ) (p t reach : ℕ) (now before : List (List ℕ)) : Type 0 where
  pub size : length now ≡ length before
  pub each : (j : ℕ) → j < length before → IsRowStep factors p (row now j) (row before j) (reach - t * j)
  pub whole : (j : ℕ) → j < length before → StaysWhole (length factors) (row now j) (row before j)

-- made are the first of the coefficients in one row of the polynomial at place g, so many; zeros past its end
pub record AreCoefficients (n g count : ℕ) (r made : List ℕ) : Type 0 where
  pub size : length made ≡ count
  pub each : (i : ℕ) → i < count → slice_index made i ≡ slice_index r (i * n + g)
