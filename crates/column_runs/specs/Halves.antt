-- Bytes whose low four bits and high four lie apart.
use Rattle.std.specs.Prelude.{◌≡◌, ℕ, ◌+◌, ◌*◌, ◌<◌, List, length, slice_index}
use Rattle.std.specs.Simd.Lanes.{zip2, Each1}
use Rattle.gf256.specs.Field.{◌⊕◌}

-- the bytes
abbrev pub together : List ℕ → List ℕ → List ℕ
together low high = zip2 (λ l h. h * 16 + l) low high

-- as many low halves as high ones, all below 16
pub record AreHalves (lows highs : List ℕ) : Type 0 where
  pub same : length lows ≡ length highs
  pub low : Each1 (λ l. l < 16) lows
  pub high : Each1 (λ h. h < 16) highs

-- place c of a row less that of another
abbrev pub difference : List ℕ → List ℕ → ℕ → ℕ
difference row first c = slice_index row c ⊕ slice_index first c

-- halves below 16, of which the first n are those of the bytes that g gives
pub record AreParts (lows highs : List ℕ) (g : ℕ → ℕ) (n : ℕ) : Type 0 where
  pub low : Each1 (λ l. l < 16) lows
  pub high : Each1 (λ h. h < 16) highs
  pub each : (c : ℕ) → c < n → slice_index highs c * 16 + slice_index lows c ≡ g c
